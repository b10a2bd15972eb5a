-- Each number has one numeral, in either base.
use Rattle.std.proofs.Common.{◌≡◌, ◌⊎◌, true, false, ℕ, zero, suc, ◌+◌, ◌-◌, ◌*◌, ◌/◌, ◌%◌, ◌^◌, ◌<◌, ◌≤◌, List, [], ◌∷◌, ◌++◌, length, get_or, inl, inr, refl, sym, ap, subst, ◌∙◌, arith, pow-suc, mod-lt, append-nil, eq-eqb, mul-le-mul_right}
use Rattle.std.proofs.Math.Nat.{pow-le-pow_right}
use Rattle.std.specs.Char.{digit_value}
use Rattle.std.specs.Fmt.{digits, digit_glyph}
use Rattle.std.specs.List.{list_all}
use Rattle.std.specs.Str.Parse.{digits_value, digits_value_after}
use Rattle.std.proofs.lemmas.Bool.{cases_eq, cases_lt, and_parts, and_from, or_left, or_right, not_from_false, ne_eqb}
use Rattle.std.proofs.lemmas.Bool.Decides.{nat_tests}
use Rattle.std.proofs.lemmas.Fmt.{digits_is_IsNumeral}
use Rattle.op_table.specs.declared.numeral.Base.{Base}
use Rattle.op_table.specs.declared.numeral.Base.TheVariants.{Ten, Sixteen}
use Rattle.op_table.specs.Value.{is_numeral}
use Rattle.op_table.specs.Numeral.{base_of, is_digit_of}
use Rattle.op_table.proofs.Spelled.{spelled, last_digit, spelled-whole, spelled-none, spelled-last, spelled-step}

-- ---- digits

some_base : (base : Base) → 0 < base_of base
some_base Ten = omega arith
some_base Sixteen = omega arith

glyph_is_digit : (base : Base) (d : ℕ) → d < base_of base → is_digit_of base (digit_glyph false d) ≡ true
glyph_is_digit Ten d small = grind (arith, nat_tests)
glyph_is_digit Sixteen d small = grind (arith, nat_tests)

pub digit_small : (base : Base) (b : ℕ) → is_digit_of base b ≡ true → digit_value b < base_of base
digit_small Ten b is = grind (arith, nat_tests)
digit_small Sixteen b is = grind (arith, nat_tests)

glyph_of_digit : (base : Base) (b : ℕ) → is_digit_of base b ≡ true → digit_glyph false (digit_value b) ≡ b
glyph_of_digit Ten b is = grind (arith, nat_tests)
glyph_of_digit Sixteen b is = grind (arith, nat_tests)

glyph_some : (base : Base) (d : ℕ) → d < base_of base → 0 < d → digit_glyph false d ≡ 48 → ⊥
glyph_some Ten d small some e = grind (arith, nat_tests)
glyph_some Sixteen d small some e = grind (arith, nat_tests)

digit_some : (base : Base) (b : ℕ) → is_digit_of base b ≡ true → (b ≡ 48 → ⊥) → 0 < digit_value b
digit_some Ten b is some = grind (arith, nat_tests)
digit_some Sixteen b is some = grind (arith, nat_tests)

-- one more digit, and without it
front : (base : Base) (n d : ℕ) → d < base_of base → (n * base_of base + d) / base_of base ≡ n
front Ten n d small = omega arith
front Sixteen n d small = omega arith

back : (base : Base) (n d : ℕ) → d < base_of base → (n * base_of base + d) % base_of base ≡ d
back Ten n d small = omega arith
back Sixteen n d small = omega arith

more_than : (base : Base) (n d : ℕ) → n * 4 ≤ n * base_of base + d
more_than Ten n d = omega arith
more_than Sixteen n d = omega arith

without_last : (base : Base) (n k : ℕ) → n < base_of base ^ suc k → n / base_of base < base_of base ^ k
without_last Ten n k small = omega (arith, pow-suc 10 k)
without_last Sixteen n k small = omega (arith, pow-suc 16 k)

alone : (base : Base) (n : ℕ) → n / base_of base ≡ 0 → n % base_of base ≡ n
alone Ten n none = omega arith
alone Sixteen n none = omega arith

one_digit : (base : Base) (n : ℕ) → n < base_of base ^ 1 → n / base_of base ≡ 0
one_digit Ten n small = omega arith
one_digit Sixteen n small = omega arith

-- ---- what is printed

spelled_digits : (base : Base) (k n : ℕ) (written : List ℕ) → list_all (is_digit_of base) written ≡ true → list_all (is_digit_of base) (spelled (base_of base) k n written) ≡ true
spelled_digits base zero n written all = ap (list_all (is_digit_of base)) (spelled-none (base_of base) n written) ∙ all
spelled_digits base (suc k) n written all =
    let more : list_all (is_digit_of base) (last_digit (base_of base) n ∷ written) ≡ true = and_from _ _ (glyph_is_digit base (n % base_of base) (mod-lt n (some_base base))) all in
    elim (cases_eq (n / base_of base) 0) [
      | inl none ↦ ap (list_all (is_digit_of base)) (spelled-last (base_of base) k n written none) ∙ more
      | inr some ↦ ap (list_all (is_digit_of base)) (spelled-step (base_of base) k n written some) ∙ spelled_digits base k (n / base_of base) (last_digit (base_of base) n ∷ written) more
    ]

spelled_leads : (base : Base) (k n : ℕ) (written : List ℕ) → n < base_of base ^ k → 0 < n → get_or (spelled (base_of base) k n written) 0 0 ≡ 48 → ⊥
spelled_leads Ten zero n written small some e = omega arith
spelled_leads Sixteen zero n written small some e = omega arith
spelled_leads base (suc k) n written small some e = elim (cases_eq (n / base_of base) 0) [
  | inl none ↦
      let same = alone base n none in
      glyph_some base (n % base_of base) (mod-lt n (some_base base)) (omega (arith, same)) (sym (ap (λ (l : List ℕ). get_or l 0 0) (spelled-last (base_of base) k n written none)) ∙ e)
  | inr more ↦
      spelled_leads base k (n / base_of base) (last_digit (base_of base) n ∷ written) (without_last base n k small) (omega (arith, more))
      (sym (ap (λ (l : List ℕ). get_or l 0 0) (spelled-step (base_of base) k n written more)) ∙ e)
]

spelled_short : (base : Base) (j k n : ℕ) (written : List ℕ) → n < base_of base ^ suc j → length (spelled (base_of base) k n written) ≤ suc j + length written
spelled_short base j zero n written small = omega (arith, ap length (spelled-none (base_of base) n written))
spelled_short base zero (suc k) n written small = omega (arith, ap length (spelled-last (base_of base) k n written (one_digit base n small)))
spelled_short base (suc i) (suc k) n written small = elim (cases_eq (n / base_of base) 0) [
  | inl none ↦ omega (arith, ap length (spelled-last (base_of base) k n written none))
  | inr more ↦
      omega (arith, ap length (spelled-step (base_of base) k n written more), spelled_short base i k (n / base_of base) (last_digit (base_of base) n ∷ written) (without_last base n (suc i) small))
]

pub numeral_digits : (base : Base) (n : ℕ) → list_all (is_digit_of base) (digits (base_of base) false n) ≡ true
numeral_digits base n = sym (ap (list_all (is_digit_of base)) (spelled-whole (base_of base) n)) ∙ spelled_digits base 64 n [] refl

numeral_from : (base : Base) (ds : List ℕ) → list_all (is_digit_of base) ds ≡ true → 0 < length ds → (get_or ds 0 0 ≡ 48 → length ds ≡ 1) → is_numeral (is_digit_of base) ds ≡ true
numeral_from base [] all some leads = absurd (omega arith)
numeral_from base (d ∷ ds) all some leads = and_from _ _ all (elim (cases_eq d 48) [
  | inl e ↦ let one : length (d ∷ ds) ≡ 1 = leads e in or_right _ _ (eq-eqb (length ds) 0 (omega arith))
  | inr other ↦ or_left _ _ (not_from_false _ (ne_eqb d 48 other))
])

none_of_zero : (base : Base) (n : ℕ) → n ≡ 0 → n / base_of base ≡ 0
none_of_zero Ten n e = omega arith
none_of_zero Sixteen n e = omega arith

in_64_digits : (base : Base) (n : ℕ) → n < 2 ^ 128 → n < base_of base ^ 64
in_64_digits Ten n small = omega arith
in_64_digits Sixteen n small = omega arith

read_back : (base : Base) (n : ℕ) → n < 2 ^ 128 → (0 < length (digits (base_of base) false n)) × (digits_value (base_of base) (digits (base_of base) false n) ≡ n)
read_back Ten n small = let back = digits_is_IsNumeral 10 false (omega arith) (omega arith) n (omega arith) in (back.0.0, back.1)
read_back Sixteen n small = let back = digits_is_IsNumeral 16 false (omega arith) (omega arith) n (omega arith) in (back.0.0, back.1)

numeral_printed : (base : Base) (n : ℕ) → n < 2 ^ 128 → is_numeral (is_digit_of base) (digits (base_of base) false n) ≡ true
numeral_printed base n small = numeral_from base (digits (base_of base) false n) (numeral_digits base n) (read_back base n small).0 (leads (cases_eq n 0))
  where
    whole : spelled (base_of base) 64 n [] ≡ digits (base_of base) false n
    whole = spelled-whole (base_of base) n

    leads : (n ≡ 0) ⊎ (n ≡ 0 → ⊥) → get_or (digits (base_of base) false n) 0 0 ≡ 48 → length (digits (base_of base) false n) ≡ 1
    leads (inl none) e = sym (ap length whole) ∙ ap length (spelled-last (base_of base) 63 n [] (none_of_zero base n none))
    leads (inr other) e = absurd (spelled_leads base 64 n [] (in_64_digits base n small) (omega (arith, other)) (ap (λ (l : List ℕ). get_or l 0 0) whole ∙ e))

-- what is printed is read again
pub printed_numeral : (base : Base) (n : ℕ) → n < 2 ^ 128 → (is_numeral (is_digit_of base) (digits (base_of base) false n) ≡ true) × (digits_value (base_of base) (digits (base_of base) false n) ≡ n)
printed_numeral base n small = (numeral_printed base n small, (read_back base n small).1)

-- ---- what is read

spelled_again : (base : Base) (k n : ℕ) (ds written : List ℕ) → 0 < n → list_all (is_digit_of base) ds ≡ true
    → spelled (base_of base) (k + length ds) (digits_value_after (base_of base) n ds) written ≡ spelled (base_of base) k n (ds ++ written)
spelled_again base k n [] written some all = ap (λ (j : ℕ). spelled (base_of base) j n written) same
  where
    same : k + 0 ≡ k
    same = omega arith
spelled_again base k n (c ∷ cs) written some all =
    ap (λ (j : ℕ). spelled (base_of base) j (digits_value_after (base_of base) m cs) written) one_more
    ∙ spelled_again base (suc k) m cs written (omega (arith, front_is, some_base base)) (and_parts _ _ all).1
    ∙ spelled-step (base_of base) k m (cs ++ written) (λ none. omega (arith, front_is))
    ∙ (λ i. spelled (base_of base) k (front_is i) (last_is i ∷ (cs ++ written)))
  where
    m : ℕ
    m = n * base_of base + digit_value c

    is : is_digit_of base c ≡ true
    is = (and_parts _ _ all).0

    front_is : m / base_of base ≡ n
    front_is = front base n (digit_value c) (digit_small base c is)

    last_is : last_digit (base_of base) m ≡ c
    last_is = ap (digit_glyph false) (back base n (digit_value c) (digit_small base c is)) ∙ glyph_of_digit base c is

    one_more : k + length (c ∷ cs) ≡ suc k + length cs
    one_more = omega arith

-- each digit at least quadruples the number
at_least : (base : Base) (n : ℕ) (ds : List ℕ) → n * 4 ^ length ds ≤ digits_value_after (base_of base) n ds
at_least base n [] = omega arith
at_least base n (c ∷ cs) =
    let four : n * 4 ^ length (c ∷ cs) ≡ n * 4 * 4 ^ length cs = ap (λ (k : ℕ). n * k) (pow-suc 4 (length cs)) ∙ grind arith in
    omega (arith, four, mul-le-mul_right (4 ^ length cs) (more_than base n (digit_value c)), at_least base (n * base_of base + digit_value c) cs)

few_digits : (base : Base) (n : ℕ) (ds : List ℕ) → 0 < n → digits_value_after (base_of base) n ds < 2 ^ 128 → length ds ≤ 63
few_digits base n ds some small = elim (cases_lt (length ds) 64) [
  | inl few ↦ omega arith
  | inr many ↦
      let four : 0 < 4 = omega arith in
      let large : 4 ^ 64 ≤ 4 ^ length ds = pow-le-pow_right four many in
      let one : 1 * 4 ^ length ds ≤ n * 4 ^ length ds = mul-le-mul_right (4 ^ length ds) some in
      absurd (omega (arith, at_least base n ds))
]

digit_alone : (base : Base) (d : ℕ) → d < base_of base → (d / base_of base ≡ 0) × (d % base_of base ≡ d)
digit_alone Ten d small = (omega arith, omega arith)
digit_alone Sixteen d small = (omega arith, omega arith)

first_value : (base : Base) (c : ℕ) → 0 * base_of base + digit_value c ≡ digit_value c
first_value Ten c = omega arith
first_value Sixteen c = omega arith

-- the last step, which writes the first digit
first_digit : (base : Base) (k c : ℕ) (written : List ℕ) → is_digit_of base c ≡ true → spelled (base_of base) (suc k) (digit_value c) written ≡ c ∷ written
first_digit base k c written is =
    let only = digit_alone base (digit_value c) (digit_small base c is) in
    spelled-last (base_of base) k (digit_value c) written only.0 ∙ ap (λ (g : ℕ). g ∷ written) (ap (digit_glyph false) only.1 ∙ glyph_of_digit base c is)

all_digits : (base : Base) (c : ℕ) (cs : List ℕ) → is_digit_of base c ≡ true → list_all (is_digit_of base) cs ≡ true → 0 < digit_value c → length cs ≤ 63
    → digits (base_of base) false (digits_value_after (base_of base) (digit_value c) cs) ≡ c ∷ cs
all_digits base c cs is all some few =
    sym (spelled-whole (base_of base) value)
    ∙ ap (λ (k : ℕ). spelled (base_of base) k value []) count
    ∙ spelled_again base (suc (63 - length cs)) (digit_value c) cs [] some all
    ∙ first_digit base (63 - length cs) c (cs ++ []) is
    ∙ ap (λ (l : List ℕ). c ∷ l) (append-nil cs)
  where
    value : ℕ
    value = digits_value_after (base_of base) (digit_value c) cs

    count : 64 ≡ suc (63 - length cs) + length cs
    count = omega arith

-- what is read is printed again
pub numeral_text : (base : Base) (ds : List ℕ) → is_numeral (is_digit_of base) ds ≡ true → digits_value (base_of base) ds < 2 ^ 128 → digits (base_of base) false (digits_value (base_of base) ds) ≡ ds
numeral_text base [] is small = absurd cc
numeral_text base (c ∷ []) is small =
    ap (digits (base_of base) false) (first_value base c) ∙ sym (spelled-whole (base_of base) (digit_value c)) ∙ first_digit base 63 c [] (and_parts _ _ (and_parts _ _ is).0).0
numeral_text base (c ∷ d ∷ ds) is small =
    ap (λ (n : ℕ). digits (base_of base) false (digits_value_after (base_of base) n (d ∷ ds))) (first_value base c)
    ∙ all_digits base c (d ∷ ds) parts.0 parts.1 some (few_digits base (digit_value c) (d ∷ ds) some (subst (λ (n : ℕ). digits_value_after (base_of base) n (d ∷ ds) < 2 ^ 128) (first_value base c) small))
  where
    parts : (is_digit_of base c ≡ true) × (list_all (is_digit_of base) (d ∷ ds) ≡ true)
    parts = and_parts _ _ (and_parts _ _ is).0

    some : 0 < digit_value c
    some = digit_some base c parts.0 (λ e. absurd (grind (arith, nat_tests)))

-- ---- how long, and of which bytes

pub numeral_short : (base : Base) (j n : ℕ) → n < base_of base ^ suc j → length (digits (base_of base) false n) ≤ suc j
numeral_short base j n small = omega (arith, ap length (spelled-whole (base_of base) n), spelled_short base j 64 n [] small)

pub numeral_some : (base : Base) (n : ℕ) → n < 2 ^ 128 → 0 < length (digits (base_of base) false n)
numeral_some base n small = (read_back base n small).0
