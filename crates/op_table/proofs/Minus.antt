-- The text that is a minus and digits.
use Rattle.std.proofs.Common.{◌≡◌, Bool, true, false, ℕ, ◌+◌, ◌*◌, ◌/◌, ◌^◌, ◌<◌, ◌≤◌, List, [], ◌∷◌, get_or, Ok, Err, ◌&&◌, eqb, inl, inr, refl, sym, ◌∙◌, arith}
use Rattle.std.specs.Char.{digit_value}
use Rattle.std.specs.Str.Parse.{digits_value}
use Rattle.std.proofs.lemmas.Bool.{cases_eq, and_parts, eq-eqb, ne_eqb, lt-leb}
use Rattle.std.proofs.lemmas.Bool.Decides.{nat_tests}
use Rattle.op_table.specs.declared.kind.Kind.{Kind}
use Rattle.op_table.specs.declared.kind.Width.{Width}
use Rattle.op_table.specs.declared.kind.Width.TheVariants.{W1, W8, W16, W32, W64, W128}
use Rattle.op_table.specs.declared.numeral.Base.TheVariants.{Ten}
use Rattle.op_table.specs.declared.value.ValueFault.{ValueFault}
use Rattle.op_table.specs.declared.value.ValueFault.TheVariants.{BadNumber, OutOfRange}
use Rattle.op_table.specs.Kind.{bits_of, values_of}
use Rattle.op_table.specs.Value.{is_digit, is_natural, negative_value, parsed_int}
use Rattle.op_table.specs.Numeral.{numeral_of}
use Rattle.op_table.proofs.Digits.{more_digits, numeral_ok, numeral_fault}

pub most_values : (width : Width) → 2 ^ bits_of width ≤ 2 ^ 128
most_values W1 = omega arith
most_values W8 = omega arith
most_values W16 = omega arith
most_values W32 = omega arith
most_values W64 = omega arith
most_values W128 = omega arith

-- digits that begin with 0 are the one text of 0
pub zero_value : (ds : List ℕ) → is_natural ds ≡ true → get_or ds 0 0 ≡ 48 → digits_value 10 ds ≡ 0
zero_value [] natural zero = refl
zero_value (c ∷ []) natural zero = grind (arith, nat_tests)
zero_value (c ∷ d ∷ ds) natural zero = absurd (grind (arith, nat_tests))

digit_above : (c : ℕ) → is_digit c ≡ true → (c ≡ 48 → ⊥) → 0 < digit_value c
digit_above c is some = grind (arith, nat_tests)

pub some_value : (ds : List ℕ) → is_natural ds ≡ true → (get_or ds 0 0 ≡ 48 → ⊥) → 0 < digits_value 10 ds
some_value [] natural some = absurd cc
some_value (c ∷ cs) natural some = omega (arith, digit_above c (and_parts _ _ (and_parts _ _ natural).0).0 some, more_digits Ten (0 * 10 + digit_value c) cs)

-- digits that do not begin with 0, and only those, may follow a minus
leads : (ds : List ℕ) → is_natural ds ≡ true → (digits_value 10 ds ≡ 0 → ⊥) → eqb (get_or ds 0 0) 48 ≡ false
leads ds natural some = ne_eqb _ _ (λ zero. some (zero_value ds natural zero))

leads_not : (ds : List ℕ) → is_natural ds ≡ true → digits_value 10 ds ≡ 0 → eqb (get_or ds 0 0) 48 ≡ true
leads_not ds natural none = elim (cases_eq (get_or ds 0 0) 48) [ inl zero ↦ eq-eqb _ _ zero | inr some ↦ absurd (omega (arith, some_value ds natural some)) ]

pub minus_zero : (kind : Kind) (ds : List ℕ) (n : ℕ) → numeral_of Ten ds ≡ Ok n → n ≡ 0 → parsed_int kind (45 ∷ ds) ≡ Err BadNumber
minus_zero kind ds n e none = let read = numeral_ok Ten ds n e in rw (read.0, leads_not ds read.0 (read.1 ∙ none)) refl

pub minus_some : (kind : Kind) (ds : List ℕ) (n : ℕ) → numeral_of Ten ds ≡ Ok n → (n ≡ 0 → ⊥) → parsed_int kind (45 ∷ ds) ≡ negative_value kind n
minus_some kind ds n e some = let read = numeral_ok Ten ds n e in rw (read.0, leads ds read.0 (λ none. some (sym read.1 ∙ none)), read.1) refl

too_negative : (kind : Kind) (n : ℕ) → 2 ^ 128 ≤ n → negative_value kind n ≡ Err OutOfRange
too_negative kind n large = rw (lt-leb n (values_of kind / 2) (omega (arith, most_values kind.width)), and_false kind.signed) refl
  where
    and_false : (b : Bool) → (b && false) ≡ false
    and_false true = refl
    and_false false = refl

pub minus_fault : (kind : Kind) (ds : List ℕ) (fault : ValueFault) → numeral_of Ten ds ≡ Err fault → parsed_int kind (45 ∷ ds) ≡ Err fault
minus_fault kind ds fault e = elim (numeral_fault Ten ds fault e) [
  | inl bad ↦ rw (bad.0, bad.1) refl
  | inr big ↦ rw (big.0, leads ds big.0 (λ none. omega (arith, big.1)), too_negative kind _ big.1, big.2) refl
]
