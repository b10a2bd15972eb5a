-- Each value of a kind has one text, which is a short word.
use Rattle.std.proofs.Common.{◌≡◌, true, false, cond, eqb, ℕ, ◌-◌, ◌^◌, ◌<◌, ◌≤◌, List, [], ◌∷◌, ◌++◌, length, drop, Ok, Err, codes, inl, inr, refl, sym, ap, ◌∙◌, arith, eqb-true, lt-ltb, le-ltb, pow_pos}
use Rattle.std.specs.Fmt.{decimal, digits}
use Rattle.std.specs.List.{list_all}
use Rattle.std.specs.Str.{bytes_eq}
use Rattle.std.specs.Str.Parse.{digits_value}
use Rattle.std.proofs.lemmas.Bool.{cases_eq, cases_lt, and_parts, and_from}
use Rattle.std.proofs.lemmas.Bool.Decides.{nat_tests}
use Rattle.std.proofs.lemmas.Slice.Eq.{bytes_eq-Decides}
use Rattle.op_table.specs.declared.kind.Kind.{Kind}
use Rattle.op_table.specs.declared.kind.Width.{Width}
use Rattle.op_table.specs.declared.kind.Class.{Class}
use Rattle.op_table.specs.declared.kind.Class.TheVariants as class
use Rattle.op_table.specs.declared.numeral.Base.{Base}
use Rattle.op_table.specs.declared.numeral.Base.TheVariants.{Ten, Sixteen}
use Rattle.op_table.specs.declared.value.ValueFault.TheVariants.{BadNumber}
use Rattle.op_table.specs.Kind.{bits_of, values_of, IsKind, IsOfClass}
use Rattle.op_table.specs.Value.{is_address, below, parsed_bool, parsed_address, parsed_as, parsed_value, bool_text, address_text, text_as, value_text, naturals_of, int_text, is_numeral}
use Rattle.op_table.specs.Numeral.{base_of, is_digit_of}
use Rattle.op_table.specs.Laws.{PrintedIsRead, ValueHasOneText, ReadIsValue, IsWordUpTo, is_word_byte, ValueTextIsShort}
use Rattle.op_table.proofs.Digits.{chosen, below_ok}
use Rattle.op_table.proofs.Minus.{most_values}
use Rattle.op_table.proofs.Numerals.{printed_numeral, numeral_text, numeral_short, numeral_some, numeral_digits}
use Rattle.op_table.proofs.IntTexts.{ok_err, ok_ok, half, signs, int_back, int_unique}

-- ---- truth values and addresses

two_values : (kind : Kind) → IsOfClass class.Bool kind → values_of kind ≡ 2
two_values kind is = ap (λ (w : Width). 2 ^ bits_of w) is.0

bool_back : (v : ℕ) → v < 2 → parsed_bool (bool_text v) ≡ Ok v
bool_back v small = elim (cases_eq v 0) [
  | inl e ↦ rw e refl
  | inr some ↦ let one : v ≡ 1 = omega (arith, some) in rw one refl
]

bool_unique : (text : List ℕ) (v : ℕ) → parsed_bool text ≡ Ok v → (text ≡ bool_text v) × (v < 2)
bool_unique text v e = elim (chosen (bytes_eq text (codes "false")) (Ok 0) _ (Ok v) e) [
  | inl t ↦ let zero_is = ok_ok _ _ t.1 in ((bytes_eq-Decides text (codes "false")).0 t.0 ∙ ap bool_text zero_is, omega arith)
  | inr f ↦ elim (chosen (bytes_eq text (codes "true")) (Ok 1) (Err BadNumber) (Ok v) f.1) [
    | inl t ↦ let one_is = ok_ok _ _ t.1 in ((bytes_eq-Decides text (codes "true")).0 t.0 ∙ ap bool_text one_is, omega arith)
    | inr g ↦ absurd (ok_err g.1)
  ]
]

address_back : (kind : Kind) (v : ℕ) → v < values_of kind → parsed_address kind (address_text v) ≡ Ok v
address_back kind v small = let printed = printed_numeral Sixteen v (omega (arith, most_values kind.width)) in rw (printed.0, printed.1, lt-ltb v (values_of kind) small) refl

address_parts : (text : List ℕ) → is_address text ≡ true → text ≡ codes "0x" ++ drop 2 text
address_parts [] is = absurd cc
address_parts (a ∷ []) is = absurd cc
address_parts (a ∷ b ∷ ds) is = let prefix = and_parts _ _ (and_parts _ _ is).0 in (λ i. eqb-true a 48 prefix.0 i ∷ eqb-true b 120 prefix.1 i ∷ ds)

address_digits : (text : List ℕ) → is_address text ≡ true → is_numeral (is_digit_of Sixteen) (drop 2 text) ≡ true
address_digits [] is = absurd cc
address_digits (a ∷ []) is = absurd cc
address_digits (a ∷ b ∷ ds) is = (and_parts _ _ is).1

address_unique : (kind : Kind) (text : List ℕ) (v : ℕ) → parsed_address kind text ≡ Ok v → (text ≡ address_text v) × (v < values_of kind)
address_unique kind text v e = elim (chosen (is_address text) (below (values_of kind) (digits_value 16 (drop 2 text))) (Err BadNumber) (Ok v) e) [
  | inl t ↦
      let read = below_ok (values_of kind) (digits_value 16 (drop 2 text)) v t.1 in
      let written = ap (digits 16 false) (sym read.1) ∙ numeral_text Sixteen (drop 2 text) (address_digits text t.0) (omega (arith, read.0, most_values kind.width)) in
      (address_parts text t.0 ∙ ap (λ (l : List ℕ). codes "0x" ++ l) (sym written), omega (arith, read.0, read.1))
  | inr f ↦ absurd (ok_err f.1)
]

-- ---- all kinds

back_as : (c : Class) (kind : Kind) (v : ℕ) → IsOfClass c kind → v < values_of kind → parsed_as c kind (text_as c kind v) ≡ Ok v
back_as class.Int kind v is small = int_back kind v small
back_as class.Bool kind v is small = bool_back v (omega (arith, two_values kind is))
back_as class.Ptr kind v is small = address_back kind v small

unique_as : (c : Class) (kind : Kind) (text : List ℕ) (v : ℕ) → IsOfClass c kind → parsed_as c kind text ≡ Ok v → (text ≡ text_as c kind v) × (v < values_of kind)
unique_as class.Int kind text v is e = int_unique kind text v e
unique_as class.Bool kind text v is e = let found = bool_unique text v e in (found.0, omega (arith, found.1, two_values kind is))
unique_as class.Ptr kind text v is e = address_unique kind text v e

pub printed_is_read : PrintedIsRead
unfolding parsed_value value_text
printed_is_read kind v is small = back_as kind.class kind v is small

pub value_has_one_text : ValueHasOneText
unfolding parsed_value value_text
value_has_one_text kind text v is e = (unique_as kind.class kind text v is e).0

pub read_is_value : ReadIsValue
unfolding parsed_value
read_is_value kind text v is e = (unique_as kind.class kind text v is e).1

-- ---- short words

digit_is_plain : (base : Base) (b : ℕ) → is_digit_of base b ≡ true → is_word_byte b ≡ true
digit_is_plain Ten b is = grind (arith, nat_tests)
digit_is_plain Sixteen b is = grind (arith, nat_tests)

digits_are_plain : (base : Base) (ds : List ℕ) → list_all (is_digit_of base) ds ≡ true → list_all is_word_byte ds ≡ true
digits_are_plain base [] all = refl
digits_are_plain base (d ∷ ds) all = let parts = and_parts _ _ all in and_from _ _ (digit_is_plain base d parts.0) (digits_are_plain base ds parts.1)

numeral_is_plain : (base : Base) (n : ℕ) → list_all is_word_byte (digits (base_of base) false n) ≡ true
numeral_is_plain base n = digits_are_plain base (digits (base_of base) false n) (numeral_digits base n)

decimal_is_short : (n : ℕ) → n < 2 ^ 128 → length (decimal n) ≤ 39
decimal_is_short n small = numeral_short Ten 38 n (omega arith)

some_naturals : (kind : Kind) → 0 < naturals_of kind
some_naturals kind = elim (signs kind) [ inl s ↦ omega (arith, s.1, half kind.width, pow_pos (bits_of kind.width)) | inr u ↦ omega (arith, u.1, pow_pos (bits_of kind.width)) ]

short_natural : (kind : Kind) (v : ℕ) → v < values_of kind → IsWordUpTo 40 (decimal v)
short_natural kind v small = record {
  some = numeral_some Ten v (omega (arith, most_values kind.width));
  short = omega (arith, decimal_is_short v (omega (arith, most_values kind.width)));
  plain = numeral_is_plain Ten v;
}

short_minus : (kind : Kind) (v : ℕ) → naturals_of kind ≤ v → v < values_of kind → IsWordUpTo 40 (45 ∷ decimal (values_of kind - v))
short_minus kind v large small = record {
  some = omega arith;
  short = omega (arith, decimal_is_short (values_of kind - v) (omega (arith, some_naturals kind, most_values kind.width)));
  plain = numeral_is_plain Ten (values_of kind - v);
}

short_int : (kind : Kind) (v : ℕ) → v < values_of kind → IsWordUpTo 40 (int_text kind v)
short_int kind v small = elim (cases_lt v (naturals_of kind)) [
  | inl less ↦ rw (lt-ltb v (naturals_of kind) less) (short_natural kind v small)
  | inr more ↦ rw (le-ltb v (naturals_of kind) more) (short_minus kind v more small)
]

short_bool : (v : ℕ) → IsWordUpTo 40 (bool_text v)
short_bool v = elim (eqb v 0) as (λ b. IsWordUpTo 40 (cond b (codes "false") (codes "true"))) [
  | true ↦ record { some = omega arith; short = omega arith; plain = refl }
  | false ↦ record { some = omega arith; short = omega arith; plain = refl }
]

short_address : (v : ℕ) → v < 2 ^ 64 → IsWordUpTo 40 (address_text v)
short_address v small = record {
  some = omega arith;
  short = omega (arith, numeral_short Sixteen 15 v (omega arith));
  plain = numeral_is_plain Sixteen v;
}

short_as : (c : Class) (kind : Kind) (v : ℕ) → IsOfClass c kind → v < values_of kind → IsWordUpTo 40 (text_as c kind v)
short_as class.Int kind v is small = short_int kind v small
short_as class.Bool kind v is small = short_bool v
short_as class.Ptr kind v is small = short_address v (omega (arith, ap (λ (w : Width). 2 ^ bits_of w) is.0))

pub value_text_is_short : ValueTextIsShort
unfolding value_text
value_text_is_short kind v is small = short_as kind.class kind v is small

-- the bound alone, for lines of many texts
pub value_text_le : (kind : Kind) (v : ℕ) → IsKind kind → v < values_of kind → length (value_text kind v) ≤ 40
value_text_le kind v is small = (value_text_is_short kind v is small).short
