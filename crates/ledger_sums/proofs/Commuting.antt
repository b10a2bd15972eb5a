-- Two calls of one family leave the same value in either order.
use Rattle.std.proofs.Common.{◌≡◌, ◌⊎◌, inl, inr, ⊎_elim, ℕ, ◌+◌, ◌-◌, ◌*◌, ◌/◌, ◌%◌, ◌<◌, ◌≤◌, Bool, true, false, cond, ltb, refl, ap, sym, ◌∙◌, subst, arith}
use Rattle.std.specs.Prelude.{bit_and, bit_or, bit_xor, nat_lt, if◌then◌else◌}
use Rattle.std.specs.Int.Bits.{xor_assoc}
use Rattle.std.proofs.lemmas.Bool.{cases_lt}
use Rattle.std.proofs.Math.Nat.{mod-add-mod}
use Rattle.std.proofs.lemmas.Nat.{and_assoc, and_comm, or_comm, xor_comm, mod-mul-add}
use Rattle.std.proofs.lemmas.Nat.Bits.{same_from_bits, bit_at_or}
use Rattle.op_table.specs.declared.kind.Kind.{Kind}
use Rattle.op_table.specs.declared.call.Call.{Call}
use Rattle.op_table.specs.declared.call.Call.TheVariants.{Add, Sub, And, Or, Xor, Max, Min, Not, BitSet, BitClear, BitToggle, AddFetch, SubFetch, AndFetch, OrFetch, XorFetch}
use Rattle.op_table.specs.Kind.{bits_of, values_of}
use Rattle.op_table.specs.Call.{after_of, rank_of, bit_place, CallFits}
use Rattle.op_table.proofs.Rows.{place_fits}
use Rattle.place_core.proofs.Blocks.{xor_ones, and_without}
use Rattle.ledger_sums.specs.declared.families.Family.{Family}
use Rattle.ledger_sums.specs.declared.families.Family.TheVariants.{Sums, Flips, Sets, Clears, Maxima, Minima}
use Rattle.ledger_sums.specs.declared.families.Mix.TheVariants.{One}
use Rattle.ledger_sums.specs.Families.{mix_of}

-- ---- what a family's members do, each with a number of its own

abbrev pub act : Kind → Family → ℕ → ℕ → ℕ
act k Sums n v = (v + n) % values_of k
act k Flips n v = bit_xor v n
act k Sets n v = bit_or v n
act k Clears n v = bit_and v n
act k Maxima n v = if nat_lt (rank_of k v) (rank_of k n) then n else v
act k Minima n v = if nat_lt (rank_of k n) (rank_of k v) then n else v

-- the number of a member; 0 of a call of no family
abbrev pub operand : Kind → Call → ℕ
operand k (Add a q) = a
operand k (Sub a q) = values_of k - a
operand k (And a q) = a
operand k (Or a q) = a
operand k (Xor a q) = a
operand k (Max a) = a
operand k (Min a) = a
operand k (Not q) = values_of k - 1
operand k (BitSet p) = bit_place k p
operand k (BitClear p) = values_of k - 1 - bit_place k p
operand k (BitToggle p) = bit_place k p
operand k (AddFetch a) = a
operand k (SubFetch a) = values_of k - a
operand k (AndFetch a) = a
operand k (OrFetch a) = a
operand k (XorFetch a) = a
operand k _ = 0

-- a family's one member: the family that a call is said to be of is its own
in_family : (f g : Family) (P : Family → Type 0) → One g ≡ One f → P g → P f
in_family f g P is p = let same : g ≡ f = cc in subst P same p

pub acts : (k : Kind) (c : Call) (f : Family) (v : ℕ) → mix_of c ≡ One f → v < values_of k → after_of k c v ≡ act k f (operand k c) v
acts k (Add a q) f v is small = in_family f Sums (λ h. (v + a) % values_of k ≡ act k h a v) is refl
acts k (Sub a q) f v is small = in_family f Sums (λ h. (v + (values_of k - a)) % values_of k ≡ act k h (values_of k - a) v) is refl
acts k (And a q) f v is small = in_family f Clears (λ h. bit_and v a ≡ act k h a v) is refl
acts k (Or a q) f v is small = in_family f Sets (λ h. bit_or v a ≡ act k h a v) is refl
acts k (Xor a q) f v is small = in_family f Flips (λ h. bit_xor v a ≡ act k h a v) is refl
acts k (Max a) f v is small = in_family f Maxima (λ h. after_of k (Max a) v ≡ act k h a v) is refl
acts k (Min a) f v is small = in_family f Minima (λ h. after_of k (Min a) v ≡ act k h a v) is refl
acts k (Not q) f v is small = in_family f Flips (λ h. values_of k - 1 - v ≡ act k h (values_of k - 1) v) is (sym (xor_ones (bits_of k.width) v small))
acts k (BitSet p) f v is small = in_family f Sets (λ h. bit_or v (bit_place k p) ≡ act k h (bit_place k p) v) is refl
acts k (BitClear p) f v is small =
    in_family f Clears (λ h. v - bit_and v (bit_place k p) ≡ act k h (values_of k - 1 - bit_place k p) v) is
    (sym (and_without (bits_of k.width) v (bit_place k p) small (place_fits k p)))
acts k (BitToggle p) f v is small = in_family f Flips (λ h. bit_xor v (bit_place k p) ≡ act k h (bit_place k p) v) is refl
acts k (AddFetch a) f v is small = in_family f Sums (λ h. (v + a) % values_of k ≡ act k h a v) is refl
acts k (SubFetch a) f v is small = in_family f Sums (λ h. (v + (values_of k - a)) % values_of k ≡ act k h (values_of k - a) v) is refl
acts k (AndFetch a) f v is small = in_family f Clears (λ h. bit_and v a ≡ act k h a v) is refl
acts k (OrFetch a) f v is small = in_family f Sets (λ h. bit_or v a ≡ act k h a v) is refl
acts k (XorFetch a) f v is small = in_family f Flips (λ h. bit_xor v a ≡ act k h a v) is refl
acts k _ f v is small = absurd cc

-- what is asked of the number: that of a maximum or minimum is a value
abbrev pub OperandFits : Kind → Family → ℕ → Type 0
OperandFits k Sums n = Unit {0}
OperandFits k Flips n = Unit {0}
OperandFits k Sets n = Unit {0}
OperandFits k Clears n = Unit {0}
OperandFits k Maxima n = n < values_of k
OperandFits k Minima n = n < values_of k

pub operand_fits : (k : Kind) (c : Call) (f : Family) → mix_of c ≡ One f → CallFits k c → OperandFits k f (operand k c)
operand_fits k (Add a q) f is fits = in_family f Sums (λ h. OperandFits k h a) is tt
operand_fits k (Sub a q) f is fits = in_family f Sums (λ h. OperandFits k h (values_of k - a)) is tt
operand_fits k (And a q) f is fits = in_family f Clears (λ h. OperandFits k h a) is tt
operand_fits k (Or a q) f is fits = in_family f Sets (λ h. OperandFits k h a) is tt
operand_fits k (Xor a q) f is fits = in_family f Flips (λ h. OperandFits k h a) is tt
operand_fits k (Max a) f is fits = in_family f Maxima (λ h. OperandFits k h a) is fits.0
operand_fits k (Min a) f is fits = in_family f Minima (λ h. OperandFits k h a) is fits.0
operand_fits k (Not q) f is fits = in_family f Flips (λ h. OperandFits k h (values_of k - 1)) is tt
operand_fits k (BitSet p) f is fits = in_family f Sets (λ h. OperandFits k h (bit_place k p)) is tt
operand_fits k (BitClear p) f is fits = in_family f Clears (λ h. OperandFits k h (values_of k - 1 - bit_place k p)) is tt
operand_fits k (BitToggle p) f is fits = in_family f Flips (λ h. OperandFits k h (bit_place k p)) is tt
operand_fits k (AddFetch a) f is fits = in_family f Sums (λ h. OperandFits k h a) is tt
operand_fits k (SubFetch a) f is fits = in_family f Sums (λ h. OperandFits k h (values_of k - a)) is tt
operand_fits k (AndFetch a) f is fits = in_family f Clears (λ h. OperandFits k h a) is tt
operand_fits k (OrFetch a) f is fits = in_family f Sets (λ h. OperandFits k h a) is tt
operand_fits k (XorFetch a) f is fits = in_family f Flips (λ h. OperandFits k h a) is tt
operand_fits k _ f is fits = absurd cc

-- ---- each family in either order

sums_either : (v m n w : ℕ) → ((v + m) % w + n) % w ≡ ((v + n) % w + m) % w
sums_either v m n w =
    mod-add-mod (v + m) w n ∙ ap (λ x. x % w) (let e : v + m + n ≡ v + n + m = omega arith in e) ∙ sym (mod-add-mod (v + n) w m)

or_assoc : (a b c : ℕ) → bit_or (bit_or a b) c ≡ bit_or a (bit_or b c)
or_assoc a b c = same_from_bits _ _ (λ i.
    let left = bit_at_or (bit_or a b) c i in let first = bit_at_or a b i in let right = bit_at_or a (bit_or b c) i in let last = bit_at_or b c i in
    omega (arith, left, first, right, last))

flips_either : (v m n : ℕ) → bit_xor (bit_xor v m) n ≡ bit_xor (bit_xor v n) m
flips_either v m n = xor_assoc v m n ∙ ap (bit_xor v) (xor_comm m n) ∙ sym (xor_assoc v n m)

sets_either : (v m n : ℕ) → bit_or (bit_or v m) n ≡ bit_or (bit_or v n) m
sets_either v m n = or_assoc v m n ∙ ap (bit_or v) (or_comm m n) ∙ sym (or_assoc v n m)

clears_either : (v m n : ℕ) → bit_and (bit_and v m) n ≡ bit_and (bit_and v n) m
clears_either v m n = and_assoc n v m ∙ ap (bit_and v) (and_comm m n) ∙ sym (and_assoc m v n)

-- by the ranks of three values; two operands of one rank are one
greatest_either : (r : ℕ → ℕ) (v m n : ℕ) → (r m ≡ r n → m ≡ n) →
    cond (ltb (r (cond (ltb (r v) (r m)) m v)) (r n)) n (cond (ltb (r v) (r m)) m v) ≡ cond (ltb (r (cond (ltb (r v) (r n)) n v)) (r m)) m (cond (ltb (r v) (r n)) n v)
greatest_either r v m n one = grind arith

least_either : (r : ℕ → ℕ) (v m n : ℕ) → (r m ≡ r n → m ≡ n) →
    cond (ltb (r n) (r (cond (ltb (r m) (r v)) m v))) n (cond (ltb (r m) (r v)) m v) ≡ cond (ltb (r m) (r (cond (ltb (r n) (r v)) n v))) m (cond (ltb (r n) (r v)) n v)
least_either r v m n one = grind arith

-- a number below twice w, modulo w
wrapped : (x w : ℕ) → x < w + w → ((x < w) × (x % w ≡ x)) ⊎ ((w ≤ x) × (x % w + w ≡ x))
wrapped x w below = ⊎_elim
    (λ (lt : x < w). inl (lt, ap (λ y. y % w) (let e : x ≡ 0 * w + x = omega arith in e) ∙ mod-mul-add 0 w x lt))
    (λ (le : w ≤ x). let rest : x - w < w = omega arith in
    let is : x % w ≡ x - w = ap (λ y. y % w) (let e : x ≡ 1 * w + (x - w) = omega arith in e) ∙ mod-mul-add 1 w (x - w) rest in
    inr (le, omega (arith, is)))
    (cases_lt x w)

-- values of one rank are one
ranks_tell : (signed : Bool) (w m n : ℕ) → m < w → n < w → (if signed then (m + w / 2) % w else m) ≡ (if signed then (n + w / 2) % w else n) → m ≡ n
ranks_tell true w m n small other same = ⊎_elim
    (λ (a : (m + w / 2 < w) × ((m + w / 2) % w ≡ m + w / 2)). ⊎_elim
    (λ (b : (n + w / 2 < w) × ((n + w / 2) % w ≡ n + w / 2)). omega (arith, a.1, b.1, same))
    (λ (b : (w ≤ n + w / 2) × ((n + w / 2) % w + w ≡ n + w / 2)). omega (arith, a.1, b.0, b.1, same))
    (wrapped (n + w / 2) w (omega arith)))
    (λ (a : (w ≤ m + w / 2) × ((m + w / 2) % w + w ≡ m + w / 2)). ⊎_elim
    (λ (b : (n + w / 2 < w) × ((n + w / 2) % w ≡ n + w / 2)). omega (arith, a.0, a.1, b.1, same))
    (λ (b : (w ≤ n + w / 2) × ((n + w / 2) % w + w ≡ n + w / 2)). omega (arith, a.1, b.1, same))
    (wrapped (n + w / 2) w (omega arith)))
    (wrapped (m + w / 2) w (omega arith))
ranks_tell false w m n small other same = same

rank_tells : (k : Kind) (m n : ℕ) → m < values_of k → n < values_of k → rank_of k m ≡ rank_of k n → m ≡ n
rank_tells k m n small other same = ranks_tell k.signed (values_of k) m n small other same

pub act_either : (k : Kind) (f : Family) (v m n : ℕ) → OperandFits k f m → OperandFits k f n → act k f n (act k f m v) ≡ act k f m (act k f n v)
act_either k Sums v m n fit other = sums_either v m n (values_of k)
act_either k Flips v m n fit other = flips_either v m n
act_either k Sets v m n fit other = sets_either v m n
act_either k Clears v m n fit other = clears_either v m n
act_either k Maxima v m n fit other = greatest_either (rank_of k) v m n (rank_tells k m n fit other)
act_either k Minima v m n fit other = least_either (rank_of k) v m n (rank_tells k m n fit other)
