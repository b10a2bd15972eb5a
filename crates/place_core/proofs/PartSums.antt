-- Parts of a value, and what they are joined to.
use Rattle.std.proofs.Common.{◌≡◌, ◌⊎◌, ⊎_elim, ℕ, zero, suc, ◌+◌, ◌-◌, ◌*◌, ◌/◌, ◌%◌, ◌^◌, ◌<◌, ◌≤◌, refl, ap, sym, ◌∙◌, subst, arith}
use Rattle.std.proofs.lemmas.Nat.{pow_pos, pow-add, shr_split, mod-pow-add, field_of, div-mul-add, mod-mul-add, mul-add-lt, mod_below, shl_whole, div-add-mod'}
use Rattle.std.proofs.Math.Nat.{mul-le-mul_right, pow-le-pow_right}
use mathlib.Core.Logic.{dite}
use native.Mathlib.Decide.{ℕ_discrete}
use Rattle.op_table.specs.declared.kind.Width.{Width}
use Rattle.op_table.specs.declared.kind.Width.TheVariants.{W1, W8, W16, W32, W64, W128}
use Rattle.op_table.specs.Kind.{bits_of}
use Rattle.place_core.specs.Shapes.{parts_for}
use Rattle.place_core.specs.PartValues.{part_of, joined}
use Rattle.place_core.specs.PartLaws.{PartFits, PartsJoinToValue, FirstPartsAreLowBits, EqualPartsJoinEqually, EqualPartsAreOfOneValue, JoinedHasItsParts, JoinedFits, PartsSuffice, NoPartIsSpare, PartsAreFew}
use Rattle.place_core.proofs.ShapeTests.{bits_pos}

pub part_fits : PartFits
part_fits bits i v = mod_below (v / 2 ^ (bits * i)) (2 ^ bits) (pow_pos bits)

below : (v k : ℕ) → v < 2 ^ k → v % 2 ^ k ≡ v
below v k fits = ap (λ (z : ℕ). z % 2 ^ k) (let e : v ≡ 0 * 2 ^ k + v = omega arith in e) ∙ mod-mul-add 0 (2 ^ k) v fits

-- the bits of one part more
one_more : (bits n : ℕ) → 2 ^ (bits * suc n) ≡ 2 ^ (bits + bits * n)
one_more bits n = ap (λ (z : ℕ). 2 ^ z) (let e : bits * suc n ≡ bits + bits * n = omega arith in e)

-- ---- joined

pub first_parts_are_low_bits : FirstPartsAreLowBits
unfolding joined
first_parts_are_low_bits bits zero parts v are =
    let none : 2 ^ (bits * 0) ≡ 1 = ap (λ (z : ℕ). 2 ^ z) (let e : bits * 0 ≡ 0 = omega arith in e) in
    let low : v % 2 ^ (bits * 0) < 2 ^ (bits * 0) = mod_below v (2 ^ (bits * 0)) (pow_pos (bits * 0)) in omega arith
first_parts_are_low_bits bits (suc n) parts v are =
    let low : joined bits parts n ≡ v % 2 ^ (bits * n) = first_parts_are_low_bits bits n parts v (λ i lt. are i (omega arith)) in
    let here : parts n ≡ v / 2 ^ (bits * n) % 2 ^ bits = are n (omega arith) in
    let split : v % 2 ^ (bits + bits * n) ≡ (v / 2 ^ (bits * n) % 2 ^ bits) * 2 ^ (bits * n) + v % 2 ^ (bits * n) = mod-pow-add v bits (bits * n) in
    let size : v % 2 ^ (bits * suc n) ≡ v % 2 ^ (bits + bits * n) = ap (λ (z : ℕ). v % z) (one_more bits n) in
    let sum : joined bits parts n + parts n * 2 ^ (bits * n) ≡ v % 2 ^ (bits * n) + (v / 2 ^ (bits * n) % 2 ^ bits) * 2 ^ (bits * n) = (λ i. low i + here i * 2 ^ (bits * n)) in
    omega arith

pub parts_join_to_value : PartsJoinToValue
parts_join_to_value bits n parts v are fits = first_parts_are_low_bits bits n parts v are ∙ below v (bits * n) fits

pub equal_parts_join_equally : EqualPartsJoinEqually
unfolding joined
equal_parts_join_equally bits zero parts others same = refl
equal_parts_join_equally bits (suc n) parts others same = λ k. equal_parts_join_equally bits n parts others (λ i lt. same i (omega arith)) k + same n (omega arith) k * 2 ^ (bits * n)

pub equal_parts_are_of_one_value : EqualPartsAreOfOneValue
equal_parts_are_of_one_value bits n u v fits_u fits_v same =
    sym (parts_join_to_value bits n (λ i. part_of bits i u) u (λ i lt. refl) fits_u) ∙ parts_join_to_value bits n (λ i. part_of bits i u) v (λ i lt. same i lt) fits_v

pub joined_fits : JoinedFits
unfolding joined
joined_fits bits zero parts fit = pow_pos (bits * 0)
joined_fits bits (suc n) parts fit =
    let low : joined bits parts n < 2 ^ (bits * n) = joined_fits bits n parts (λ i lt. fit i (omega arith)) in
    let all : parts n * 2 ^ (bits * n) + joined bits parts n < 2 ^ (bits * n) * 2 ^ bits = mul-add-lt (parts n) (2 ^ (bits * n)) (joined bits parts n) (2 ^ bits) (fit n (omega arith)) low in
    let size : 2 ^ (bits * suc n) ≡ 2 ^ bits * 2 ^ (bits * n) = one_more bits n ∙ pow-add 2 bits (bits * n) in
    omega arith

-- a field below does not see what is added above it
field_stays : (low q j k : ℕ) → (low + q * 2 ^ (j + k)) / 2 ^ k % 2 ^ j ≡ low / 2 ^ k % 2 ^ j
field_stays low q j k =
    let m : ℕ = 2 ^ (j + k) in
    let split : low / m * m + low % m ≡ low = shr_split low (j + k) in
    let whole : low + q * m ≡ (low / m + q) * m + low % m = omega arith in
    let rest : (low + q * m) % m ≡ low % m = ap (λ (z : ℕ). z % m) whole ∙ mod-mul-add (low / m + q) m (low % m) (mod_below low m (pow_pos (j + k))) in
    sym (field_of (low + q * m) j k) ∙ (ap (λ (z : ℕ). z / 2 ^ k) rest ∙ field_of low j k)

-- a part on top leaves those below it
lower_stays : (bits i n low p : ℕ) → i < n → part_of bits i (low + p * 2 ^ (bits * n)) ≡ part_of bits i low
lower_stays bits i n low p lt =
    let r : ℕ = n - suc i in
    let at : n ≡ r + suc i = omega arith in
    let size : bits * n ≡ bits * r + (bits + bits * i) = ap (λ (z : ℕ). bits * z) at ∙ omega arith in
    let pow : 2 ^ (bits * n) ≡ 2 ^ (bits * r) * 2 ^ (bits + bits * i) = ap (λ (z : ℕ). 2 ^ z) size ∙ pow-add 2 (bits * r) (bits + bits * i) in
    let sum : low + p * 2 ^ (bits * n) ≡ low + (p * 2 ^ (bits * r)) * 2 ^ (bits + bits * i) = ap (λ (z : ℕ). low + p * z) pow ∙ omega arith in
    ap (λ (z : ℕ). z / 2 ^ (bits * i) % 2 ^ bits) sum ∙ field_stays low (p * 2 ^ (bits * r)) bits (bits * i)

pub joined_has_its_parts : JoinedHasItsParts
unfolding joined
joined_has_its_parts bits zero parts fit i lt = absurd (omega arith)
joined_has_its_parts bits (suc n) parts fit i lt = dite (ℕ_discrete i n)
    (λ here.
    let low : joined bits parts n < 2 ^ (bits * n) = joined_fits bits n parts (λ j l. fit j (omega arith)) in
    let turned : joined bits parts n + parts n * 2 ^ (bits * n) ≡ parts n * 2 ^ (bits * n) + joined bits parts n = omega arith in
    let last : part_of bits n (joined bits parts n + parts n * 2 ^ (bits * n)) ≡ parts n =
    ap (λ (z : ℕ). z / 2 ^ (bits * n) % 2 ^ bits) turned ∙ (ap (λ (z : ℕ). z % 2 ^ bits) (div-mul-add (parts n) (2 ^ (bits * n)) (joined bits parts n) low) ∙ below (parts n) bits (fit n (omega arith))) in
    sym (subst (λ (z : ℕ). part_of bits z (joined bits parts n + parts n * 2 ^ (bits * n)) ≡ parts z) (sym here) last))
    (λ ne. joined_has_its_parts bits n parts (λ j l. fit j (omega arith)) i (omega arith) ∙ sym (lower_stays bits i n (joined bits parts n) (parts n) (omega arith)))

-- ---- how many parts

count_suffices : (w bits : ℕ) → 1 ≤ bits → w ≤ bits * parts_for w bits
count_suffices w bits some =
    let x : ℕ = w + bits - 1 in
    let split : x / bits * bits + x % bits ≡ x = div-add-mod' x bits in
    let rest : x % bits < bits = mod_below x bits some in
    omega arith

pub parts_suffice : PartsSuffice
parts_suffice k bits v some fits =
    let up : 2 ^ bits_of k.width ≤ 2 ^ (bits * parts_for (bits_of k.width) bits) = pow-le-pow_right {n = 2} (omega arith) {i = bits_of k.width} {j = bits * parts_for (bits_of k.width) bits} (count_suffices (bits_of k.width) bits some) in
    omega arith

pub no_part_is_spare : NoPartIsSpare
no_part_is_spare k bits i some lt =
    let w : ℕ = bits_of k.width in
    let x : ℕ = w + bits - 1 in
    let has : 0 < w = bits_pos k.width in
    let split : x / bits * bits + x % bits ≡ x = div-add-mod' x bits in
    let up : suc i * bits ≤ x / bits * bits = mul-le-mul_right bits lt in
    let one : suc i * bits ≡ bits * i + bits = omega arith in
    omega arith

abbrev Few : Width → ℕ → Type 0
Few w bits = (1 ≤ parts_for (bits_of w) bits) × (parts_for (bits_of w) bits ≤ 4) × (bits * parts_for (bits_of w) bits ≤ 128)

few_32 : (w : Width) → Few w 32
few_32 W1 = (omega arith, omega arith, omega arith)
few_32 W8 = (omega arith, omega arith, omega arith)
few_32 W16 = (omega arith, omega arith, omega arith)
few_32 W32 = (omega arith, omega arith, omega arith)
few_32 W64 = (omega arith, omega arith, omega arith)
few_32 W128 = (omega arith, omega arith, omega arith)

few_64 : (w : Width) → Few w 64
few_64 W1 = (omega arith, omega arith, omega arith)
few_64 W8 = (omega arith, omega arith, omega arith)
few_64 W16 = (omega arith, omega arith, omega arith)
few_64 W32 = (omega arith, omega arith, omega arith)
few_64 W64 = (omega arith, omega arith, omega arith)
few_64 W128 = (omega arith, omega arith, omega arith)

few : (w : Width) (bits : ℕ) → (bits ≡ 32) ⊎ (bits ≡ 64) → Few w bits
few w bits both = ⊎_elim (λ (e : bits ≡ 32). subst (Few w) (sym e) (few_32 w)) (λ (e : bits ≡ 64). subst (Few w) (sym e) (few_64 w)) both

pub parts_are_few : PartsAreFew
parts_are_few k bits both = few k.width bits both

-- ---- a part put on top

-- it keeps all its bits, and what is made has those of both
pub on_top : (bits k low number : ℕ) → k + bits ≤ 128 → low < 2 ^ k → number < 2 ^ bits → (number * 2 ^ k % 2 ^ 128 ≡ number * 2 ^ k) × (low + number * 2 ^ k < 2 ^ (k + bits))
on_top bits k low number within small fits =
    let sum : number * 2 ^ k + low < 2 ^ k * 2 ^ bits = mul-add-lt number (2 ^ k) low (2 ^ bits) fits small in
    let size : 2 ^ (k + bits) ≡ 2 ^ k * 2 ^ bits = pow-add 2 k bits in
    (shl_whole number bits k 128 fits (omega arith), omega arith)

pub within_all : (k : ℕ) → k ≤ 128 → 2 ^ k ≤ 2 ^ 128
within_all k le = pow-le-pow_right {n = 2} (omega arith) {i = k} {j = 128} le
