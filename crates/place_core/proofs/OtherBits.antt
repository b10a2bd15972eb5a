-- Where a lane is replaced all other bits stay: other lanes, and bits that no lane has.
use Rattle.std.proofs.Common.{◌≡◌, ◌⊎◌, inl, inr, ⊎_elim, ℕ, ◌+◌, ◌-◌, ◌/◌, ◌%◌, ◌^◌, ◌≤◌, ap, sym, ◌∙◌, arith}
use Rattle.std.proofs.lemmas.Nat.{pow_pos, shr-shr, field_of, mod-pow-add, mod-mul-add, mod_below}
use Rattle.place_core.specs.Shapes.{word_of}
use Rattle.place_core.specs.Operations.{word_after}
use Rattle.place_core.specs.WordLaws.{ReplacedLeavesOtherBits, StepLeavesOtherLane, StepLeavesFreeBits}
use Rattle.place_core.proofs.PlaceLaws.{lanes_are_apart}
use Rattle.place_core.proofs.ShapeWords.{lane_is}
use Rattle.place_core.proofs.StepLaws.{step_replaces_lane}
use Rattle.place_core.proofs.FreeBits.{free_bits_are_zero}

-- the lowest k bits of the lowest k + j
low_of_low : (x j k : ℕ) → x % 2 ^ (j + k) % 2 ^ k ≡ x % 2 ^ k
low_of_low x j k = ap (λ (z : ℕ). z % 2 ^ k) (mod-pow-add x j k) ∙ mod-mul-add (x / 2 ^ k % 2 ^ j) (2 ^ k) (x % 2 ^ k) (mod_below x (2 ^ k) (pow_pos k))

-- a range below s is told by the bits below s
field_below : (s p q x : ℕ) → p + q ≤ s → x / 2 ^ p % 2 ^ q ≡ x % 2 ^ s % 2 ^ (q + p) / 2 ^ p
field_below s p q x le =
    let at : s - (q + p) + (q + p) ≡ s = omega arith in
    sym (field_of x q p) ∙ ap (λ (z : ℕ). z / 2 ^ p) (sym (low_of_low x (s - (q + p)) (q + p)) ∙ ap (λ (z : ℕ). x % 2 ^ z % 2 ^ (q + p)) at)

-- a range from k up is told by the bits from k up
field_above : (k p q x : ℕ) → k ≤ p → x / 2 ^ p % 2 ^ q ≡ x / 2 ^ k / 2 ^ (p - k) % 2 ^ q
field_above k p q x le = let at : k + (p - k) ≡ p = omega arith in ap (λ (z : ℕ). z % 2 ^ q) (ap (λ (z : ℕ). x / 2 ^ z) (sym at) ∙ sym (shr-shr x k (p - k)))

pub replaced_leaves_other_bits : ReplacedLeavesOtherBits
replaced_leaves_other_bits s d new n m p q is apart = ⊎_elim
    (λ (le : p + q ≤ s). field_below s p q m le ∙ (ap (λ (z : ℕ). z % 2 ^ (q + p) / 2 ^ p) is.below ∙ sym (field_below s p q n le)))
    (λ (le : s + d ≤ p). field_above (s + d) p q m le ∙ (ap (λ (z : ℕ). z / 2 ^ (p - (s + d)) % 2 ^ q) is.above ∙ sym (field_above (s + d) p q n le)))
    apart

turned : (s d t e : ℕ) → (s + d ≤ t) ⊎ (t + e ≤ s) → (t + e ≤ s) ⊎ (s + d ≤ t)
turned s d t e apart = ⊎_elim (λ (a : s + d ≤ t). inr a) (λ (b : t + e ≤ s). inl b) apart

pub step_leaves_other_lane : StepLeavesOtherLane
step_leaves_other_lane S ok H legal o call done serves fits p t e there other =
    replaced_leaves_other_bits serves.shift serves.width _ (word_of S H serves.word) (word_after done (word_of S H serves.word)) t e
    (step_replaces_lane S ok H legal o call done serves fits)
    (turned serves.shift serves.width t e (lanes_are_apart S ok o p serves.word serves.shift serves.width t e serves.lane there other))
    ∙ lane_is S ok H legal p serves.word t e there

pub step_leaves_free_bits : StepLeavesFreeBits
step_leaves_free_bits S ok H legal o call done serves fits p n free =
    replaced_leaves_other_bits serves.shift serves.width _ (word_of S H serves.word) (word_after done (word_of S H serves.word)) p n
    (step_replaces_lane S ok H legal o call done serves fits)
    (free o serves.shift serves.width serves.lane)
    ∙ free_bits_are_zero S ok H legal serves.word p n free
