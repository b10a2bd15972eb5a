-- Each integer of a kind has one text.
use Rattle.std.proofs.Common.{◌≡◌, ◌⊎◌, true, false, ◌&&◌, leb, ℕ, ◌-◌, ◌*◌, ◌/◌, ◌^◌, ◌<◌, ◌≤◌, List, [], ◌∷◌, get_or, drop, Result, Ok, Err, inl, inr, refl, sym, ap, ◌∙◌, arith, eq-eqb, eqb-true, lt-ltb, le-ltb, le-leb, leb-true}
use Rattle.std.specs.Fmt.{decimal}
use Rattle.std.specs.Str.Parse.{digits_value}
use Rattle.std.proofs.lemmas.Bool.{cases_Bool, cases_lt, and_parts, not-true, both_ways}
use Rattle.op_table.specs.declared.kind.Kind.{Kind}
use Rattle.op_table.specs.declared.kind.Width.{Width}
use Rattle.op_table.specs.declared.kind.Width.TheVariants.{W1, W8, W16, W32, W64, W128}
use Rattle.op_table.specs.declared.numeral.Base.TheVariants.{Ten}
use Rattle.op_table.specs.declared.value.ValueFault.{ValueFault}
use Rattle.op_table.specs.declared.value.ValueFault.TheVariants.{BadNumber, OutOfRange}
use Rattle.op_table.specs.Kind.{bits_of, values_of}
use Rattle.op_table.specs.Value.{is_natural, is_negative, below, naturals_of, negative_value, parsed_int, int_text}
use Rattle.op_table.specs.Numeral.{numeral_of}
use Rattle.op_table.proofs.Digits.{chosen, below_ok}
use Rattle.op_table.proofs.Minus.{most_values, some_value, minus_some}
use Rattle.op_table.proofs.Numerals.{printed_numeral, numeral_text}

pub ok_err : {x : ℕ} {e : ValueFault} → ◌≡◌ {A = Result ℕ ValueFault} (Err e) (Ok x) → ⊥
ok_err e = cc

pub ok_ok : (x y : ℕ) → ◌≡◌ {A = Result ℕ ValueFault} (Ok x) (Ok y) → x ≡ y
ok_ok x y e = cc

-- ---- integers

pub half : (width : Width) → 2 ^ bits_of width ≡ 2 * (2 ^ bits_of width / 2)
half W1 = omega arith
half W8 = omega arith
half W16 = omega arith
half W32 = omega arith
half W64 = omega arith
half W128 = omega arith

-- where the naturals end, as a fact for each sign
pub signs : (kind : Kind) → ((kind.signed ≡ true) × (naturals_of kind ≡ values_of kind / 2)) ⊎ ((kind.signed ≡ false) × (naturals_of kind ≡ values_of kind))
signs kind = elim (cases_Bool kind.signed) [ inl is ↦ inl (is, rw is refl) | inr no_sign ↦ inr (no_sign, rw no_sign refl) ]

natural_back : (kind : Kind) (v : ℕ) → v < naturals_of kind → v < 2 ^ 128 → parsed_int kind (int_text kind v) ≡ Ok v
natural_back kind v small fits = let printed = printed_numeral Ten v fits in rw (lt-ltb v (naturals_of kind) small, printed.0, printed.1, lt-ltb v (naturals_of kind) small) refl

negative_back : (kind : Kind) (v : ℕ) → kind.signed ≡ true → values_of kind / 2 ≤ v → v < values_of kind → negative_value kind (values_of kind - v) ≡ Ok v
negative_back kind v is large small =
    let le : values_of kind - v ≤ values_of kind / 2 = omega (arith, half kind.width) in
    let back : values_of kind - (values_of kind - v) ≡ v = omega arith in
    rw (is, le-leb (values_of kind - v) (values_of kind / 2) le, back) refl

numeral_back : (v : ℕ) → v < 2 ^ 128 → numeral_of Ten (decimal v) ≡ Ok v
numeral_back v fits = let printed = printed_numeral Ten v fits in rw (printed.0, printed.1, lt-ltb v (2 ^ 128) fits) refl

minus_back : (kind : Kind) (v : ℕ) → naturals_of kind ≤ v → v < values_of kind → parsed_int kind (int_text kind v) ≡ Ok v
minus_back kind v large small = elim (signs kind) [
  | inl s ↦ rw (le-ltb v (naturals_of kind) large) (
      minus_some kind (decimal (values_of kind - v)) (values_of kind - v) (numeral_back (values_of kind - v) (omega (arith, most_values kind.width))) (λ none. omega arith)
      ∙ negative_back kind v s.0 (omega (arith, s.1)) small)
  | inr u ↦ absurd (omega (arith, u.1))
]

pub int_back : (kind : Kind) (v : ℕ) → v < values_of kind → parsed_int kind (int_text kind v) ≡ Ok v
int_back kind v small = elim (cases_lt v (naturals_of kind)) [
  | inl less ↦ natural_back kind v less (omega (arith, most_values kind.width))
  | inr more ↦ minus_back kind v more small
]

natural_text : (kind : Kind) (text : List ℕ) (v : ℕ) → is_natural text ≡ true → below (naturals_of kind) (digits_value 10 text) ≡ Ok v → (text ≡ int_text kind v) × (v < values_of kind)
natural_text kind text v natural e =
    let read = below_ok (naturals_of kind) (digits_value 10 text) v e in
    let fits : naturals_of kind ≤ values_of kind = elim (signs kind) [ inl s ↦ omega (arith, s.1) | inr u ↦ omega (arith, u.1) ] in
    let small : v < naturals_of kind = omega (arith, read.0, read.1) in
    let written : decimal v ≡ text = ap decimal (sym read.1) ∙ numeral_text Ten text natural (omega (arith, read.0, most_values kind.width)) in
    (rw (lt-ltb v (naturals_of kind) small) (sym written), omega arith)

negative_ok : (kind : Kind) (n v : ℕ) → negative_value kind n ≡ Ok v → (kind.signed ≡ true) × (n ≤ values_of kind / 2) × (values_of kind - n ≡ v)
negative_ok kind n v e = elim (chosen (kind.signed && leb n (values_of kind / 2)) (Ok (values_of kind - n)) (Err OutOfRange) (Ok v) e) [
  | inl t ↦ let parts = and_parts _ _ t.0 in (parts.0, leb-true _ _ parts.1, ok_ok _ _ t.1)
  | inr f ↦ absurd (ok_err f.1)
]

minus_text : (kind : Kind) (ds : List ℕ) (v : ℕ) → is_natural ds ≡ true → (get_or ds 0 0 ≡ 48 → ⊥) → negative_value kind (digits_value 10 ds) ≡ Ok v → (45 ∷ ds ≡ int_text kind v) × (v < values_of kind)
minus_text kind ds v natural leads e =
    let read = negative_ok kind (digits_value 10 ds) v e in
    let some = some_value ds natural leads in
    let whole = half kind.width in
    let large : naturals_of kind ≤ v = elim (signs kind) [ inl s ↦ omega (arith, s.1, read.1, read.2) | inr u ↦ absurd (true_false (sym read.0 ∙ u.0)) ] in
    let left : values_of kind - v ≡ digits_value 10 ds = omega (arith, read.1, read.2) in
    let written : decimal (values_of kind - v) ≡ ds = ap decimal left ∙ numeral_text Ten ds natural (omega (arith, read.1, most_values kind.width)) in
    (rw (le-ltb v (naturals_of kind) large) (ap (λ (l : List ℕ). 45 ∷ l) (sym written)), omega (arith, read.2))
  where
    true_false : true ≡ false → ⊥
    true_false e = cc

negative_text : (kind : Kind) (text : List ℕ) (v : ℕ) → is_negative text ≡ true → negative_value kind (digits_value 10 (drop 1 text)) ≡ Ok v → (text ≡ int_text kind v) × (v < values_of kind)
negative_text kind [] v is e = absurd cc
negative_text kind (b ∷ ds) v is e =
    let outer = and_parts _ _ is in
    let inner = and_parts _ _ outer.0 in
    let found = minus_text kind ds v inner.1 (λ lead. both_ways _ (not-true _ outer.1) (eq-eqb _ _ lead)) e in
    (ap (λ (c : ℕ). c ∷ ds) (eqb-true b 45 inner.0) ∙ found.0, found.1)

pub int_unique : (kind : Kind) (text : List ℕ) (v : ℕ) → parsed_int kind text ≡ Ok v → (text ≡ int_text kind v) × (v < values_of kind)
int_unique kind text v e = elim (chosen (is_natural text) (below (naturals_of kind) (digits_value 10 text)) _ (Ok v) e) [
  | inl t ↦ natural_text kind text v t.0 t.1
  | inr f ↦ elim (chosen (is_negative text) (negative_value kind (digits_value 10 (drop 1 text))) (Err BadNumber) (Ok v) f.1) [ inl t ↦ negative_text kind text v t.0 t.1 | inr g ↦ absurd (ok_err g.1) ]
]
