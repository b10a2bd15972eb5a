-- A word in three blocks: what lies above a lane, the lane, and what lies below it. What each operation makes of them.
use Rattle.std.proofs.Common.{◌≡◌, ℕ, zero, suc, ◌+◌, ◌-◌, ◌*◌, ◌/◌, ◌%◌, ◌^◌, ◌<◌, ◌≤◌, ◌==◌, Bool, true, false, if◌then◌else◌, refl, ap, sym, ◌∙◌, subst, arith, eq-eqb, ne_eqb}
use Rattle.std.specs.Prelude.{bit_and, bit_or, bit_xor, min, max}
use Rattle.std.specs.Int.Bits.{xor_zero_r}
use Rattle.std.proofs.lemmas.Nat.{pow-add, pow_pos, shr_split, shr_below, shr-shr, div-mul-add, mod-mul-add, mod-pow-add, shl-shr, and_comm, and_mask, and_le_r, or_disjoint, and_block, or_block, xor_block, and-not, mod_below}
use Rattle.std.proofs.lemmas.Bool.{cases_lt, lt-ltb, le-ltb}
use Rattle.std.proofs.Math.Nat.{max-eq_left, max-eq_right, min-eq_left, min-eq_right, mul-le-mul_right}
use Rattle.std.proofs.Common.{⊎_elim}
use Rattle.std.specs.Prelude.{nat_lt}
use prog.Atomic.{either}
use Rattle.place_core.specs.Operations.{IsReplaced, Replaces}
use mathlib.Core.Logic.{dite}
use native.Mathlib.Decide.{ℕ_discrete}

-- the word n has the value v in a lane that begins at s and is d wide
pub record HasLane (s d v n : ℕ) : Type 0 where
  pub within : s + d ≤ 64
  pub small : v < 2 ^ d
  pub below : n < 2 ^ 64
  pub bits : n / 2 ^ s % 2 ^ d ≡ v

pub record Cut (s d v n : ℕ) : Type 0 where
  pub top : ℕ
  pub high : ℕ
  pub low : ℕ
  pub whole : top + d + s ≡ 64
  pub high_fits : high < 2 ^ top
  pub lane_fits : v < 2 ^ d
  pub low_fits : low < 2 ^ s
  pub is : n ≡ (high * 2 ^ d + v) * 2 ^ s + low

pub cut : (s d v n : ℕ) → HasLane s d v n → Cut s d v n
cut s d v n h =
    let within = h.within in
    let top : ℕ = 64 - (s + d) in
    let whole : top + d + s ≡ 64 = omega arith in
    let below = h.below in
    let a : n < 2 ^ (top + d + s) = subst (λ (k : ℕ). n < 2 ^ k) (sym whole) below in
    let b : n / 2 ^ s < 2 ^ (top + d) = shr_below n (top + d) s a in
    let outer : n / 2 ^ s * 2 ^ s + n % 2 ^ s ≡ n = shr_split n s in
    let inner : n / 2 ^ s / 2 ^ d * 2 ^ d + n / 2 ^ s % 2 ^ d ≡ n / 2 ^ s = shr_split (n / 2 ^ s) d in
    let inner' : n / 2 ^ s / 2 ^ d * 2 ^ d + v ≡ n / 2 ^ s = ap (λ (k : ℕ). n / 2 ^ s / 2 ^ d * 2 ^ d + k) (sym h.bits) ∙ inner in
    record {
      top = top;
      high = n / 2 ^ s / 2 ^ d;
      low = n % 2 ^ s;
      whole = whole;
      high_fits = shr_below (n / 2 ^ s) top d b;
      lane_fits = h.small;
      low_fits = mod_below n (2 ^ s) (pow_pos s);
      is = sym outer ∙ ap (λ (k : ℕ). k * 2 ^ s + n % 2 ^ s) (sym inner');
    }

pub total : (s d t : ℕ) → t + d + s ≡ 64 → 2 ^ 64 ≡ 2 ^ t * 2 ^ d * 2 ^ s
total s d t e = ap (λ (k : ℕ). 2 ^ k) (sym e) ∙ (pow-add 2 (t + d) s ∙ ap (λ (k : ℕ). k * 2 ^ s) (pow-add 2 t d))

pub joined : (s d v n new m : ℕ) → (c : Cut s d v n) → m ≡ (c.high * 2 ^ d + new) * 2 ^ s + c.low → Replaces s v new n m
joined s d v n new m c e = let is = c.is in let high = c.high in let low = c.low in omega arith

pre : (k : ℕ) → (q : ℕ) × (2 ^ k ≡ suc q)
pre k = let pos = pow_pos k in (2 ^ k - 1, omega arith)

ones_is : (k q : ℕ) → 2 ^ k ≡ suc q → (n : ℕ) → n < 2 ^ k → bit_and n q ≡ n
ones_is k q e n lt = ap (bit_and n) (let is : q ≡ 2 ^ k - 1 = omega arith in is) ∙ (and_mask n k ∙ mod-mul-low n k lt)
  where
    mod-mul-low : (n k : ℕ) → n < 2 ^ k → n % 2 ^ k ≡ n
    mod-mul-low n k lt = let z : n ≡ 0 * 2 ^ k + n = omega arith in ap (λ (m : ℕ). m % 2 ^ k) z ∙ mod-mul-add 0 (2 ^ k) n lt

and_none : (n : ℕ) → bit_and n 0 ≡ 0
and_none n = let le = and_le_r n 0 in omega arith

or_none : (n : ℕ) → bit_or n 0 ≡ n
or_none n = or_disjoint n 0 (and_none n) ∙ omega arith

-- and: the mask has ones outside the lane
pub and_lane : (s d v n a : ℕ) → HasLane s d v n → a < 2 ^ d → Replaces s v (bit_and v a) n (bit_and n (a * 2 ^ s + (2 ^ 64 - 1 - (2 ^ d - 1) * 2 ^ s)))
and_lane s d v n a h fits =
    let c = cut s d v n h in let t : ℕ = c.top in
    let P = pre t in let D = pre d in let L = pre s in
    let p : ℕ = P.0 in let e : ℕ = D.0 in let r : ℕ = L.0 in
    let one_less : suc e - 1 ≡ e = omega arith in
    let masks : a * suc r + (suc p * suc e * suc r - 1 - (suc e - 1) * suc r) ≡ (p * suc e + a) * suc r + r =
    ap (λ (z : ℕ). a * suc r + (suc p * suc e * suc r - 1 - z * suc r)) one_less ∙ omega arith in
    let all : 2 ^ 64 ≡ suc p * suc e * suc r = total s d t c.whole ∙ (λ i. P.1 i * D.1 i * L.1 i) in
    let mask : a * 2 ^ s + (2 ^ 64 - 1 - (2 ^ d - 1) * 2 ^ s) ≡ (p * 2 ^ d + a) * 2 ^ s + r =
    (λ i. a * L.1 i + (all i - 1 - (D.1 i - 1) * L.1 i)) ∙ (masks ∙ (λ i. (p * sym D.1 i + a) * sym L.1 i + r)) in
    joined s d v n (bit_and v a) _ c ((λ i. bit_and (c.is i) (mask i))
    ∙ (and_block s (c.high * 2 ^ d + v) (p * 2 ^ d + a) c.low r c.low_fits (let is : 2 ^ s ≡ suc r = L.1 in omega arith)
    ∙ ((λ i. and_block d c.high p v a c.lane_fits fits i * 2 ^ s + bit_and c.low r)
    ∙ (λ i. (ones_is t p P.1 c.high c.high_fits i * 2 ^ d + bit_and v a) * 2 ^ s + ones_is s r L.1 c.low c.low_fits i))))

-- or, xor: the mask has zeros outside the lane
shifted : (a d s : ℕ) → a * 2 ^ s ≡ (0 * 2 ^ d + a) * 2 ^ s + 0
shifted a d s = omega arith

pub or_lane : (s d v n a : ℕ) → HasLane s d v n → a < 2 ^ d → Replaces s v (bit_or v a) n (bit_or n (a * 2 ^ s))
or_lane s d v n a h fits = let c = cut s d v n h in
    joined s d v n (bit_or v a) _ c ((λ i. bit_or (c.is i) (shifted a d s i))
    ∙ (or_block s (c.high * 2 ^ d + v) (0 * 2 ^ d + a) c.low 0 c.low_fits (pow_pos s)
    ∙ ((λ i. or_block d c.high 0 v a c.lane_fits fits i * 2 ^ s + bit_or c.low 0)
    ∙ (λ i. (or_none c.high i * 2 ^ d + bit_or v a) * 2 ^ s + or_none c.low i))))

pub xor_lane : (s d v n a : ℕ) → HasLane s d v n → a < 2 ^ d → Replaces s v (bit_xor v a) n (bit_xor n (a * 2 ^ s))
xor_lane s d v n a h fits = let c = cut s d v n h in
    joined s d v n (bit_xor v a) _ c ((λ i. bit_xor (c.is i) (shifted a d s i))
    ∙ (xor_block s (c.high * 2 ^ d + v) (0 * 2 ^ d + a) c.low 0 c.low_fits (pow_pos s)
    ∙ ((λ i. xor_block d c.high 0 v a c.lane_fits fits i * 2 ^ s + bit_xor c.low 0)
    ∙ (λ i. (xor_zero_r c.high i * 2 ^ d + bit_xor v a) * 2 ^ s + xor_zero_r c.low i))))

-- a lane at the top: the sum's carry is dropped
pub top_sum : (s d v n k : ℕ) → HasLane s d v n → s + d ≡ 64 → Replaces s v ((v + k) % 2 ^ d) n ((n + k * 2 ^ s) % 2 ^ 64)
top_sum s d v n k h top =
    let c = cut s d v n h in
    let whole = c.whole in
    let none : c.top ≡ 0 = omega arith in
    let high_fits : c.high < 2 ^ 0 = subst (λ (z : ℕ). c.high < 2 ^ z) none c.high_fits in
    let high : c.high ≡ 0 = omega arith in
    let is : n ≡ (c.high * 2 ^ d + v) * 2 ^ s + c.low = c.is in
    let is' : n ≡ v * 2 ^ s + c.low = is ∙ (ap (λ (z : ℕ). (z * 2 ^ d + v) * 2 ^ s + c.low) high ∙ omega arith) in
    let sum : n + k * 2 ^ s ≡ (v + k) * 2 ^ s + c.low = omega arith in
    let size : d + s ≡ 64 = omega arith in
    let low_fits = c.low_fits in
    let new : (n + k * 2 ^ s) % 2 ^ 64 ≡ ((v + k) % 2 ^ d) * 2 ^ s + c.low =
    (λ i. sum i % 2 ^ (sym size i)) ∙ (mod-pow-add ((v + k) * 2 ^ s + c.low) d s ∙ (λ i. (div-mul-add (v + k) (2 ^ s) c.low low_fits i % 2 ^ d) * 2 ^ s + mod-mul-add (v + k) (2 ^ s) c.low low_fits i)) in
    joined s d v n ((v + k) % 2 ^ d) _ c (new ∙ sym (ap (λ (z : ℕ). (z * 2 ^ d + (v + k) % 2 ^ d) * 2 ^ s + c.low) high ∙ omega arith))

pub add_lane : (s d v n a : ℕ) → HasLane s d v n → s + d ≡ 64 → Replaces s v ((v + a) % 2 ^ d) n ((n + a * 2 ^ s) % 2 ^ 64)
add_lane = top_sum

pub sub_lane : (s d v n a : ℕ) → HasLane s d v n → a < 2 ^ d → s + d ≡ 64 → Replaces s v ((v + (2 ^ d - a)) % 2 ^ d) n ((n + (2 ^ 64 - a * 2 ^ s)) % 2 ^ 64)
sub_lane s d v n a h fits top =
    let size : 2 ^ 64 ≡ 2 ^ d * 2 ^ s = ap (λ (k : ℕ). 2 ^ k) (let e : 64 ≡ d + s = omega arith in e) ∙ pow-add 2 d s in
    let q : ℕ = 2 ^ d - a in
    let both : 2 ^ d ≡ a + q = omega arith in
    let prod : 2 ^ d * 2 ^ s ≡ (a + q) * 2 ^ s = ap (λ (z : ℕ). z * 2 ^ s) both in
    let minus : 2 ^ 64 - a * 2 ^ s ≡ q * 2 ^ s = omega arith in
    subst (λ (z : ℕ). Replaces s v ((v + q) % 2 ^ d) n ((n + z) % 2 ^ 64)) (sym minus) (top_sum s d v n q h top)

-- a lane alone in its word
pub set_lane : (s v n a : ℕ) → n ≡ v * 2 ^ s → Replaces s v a n (a * 2 ^ s)
set_lane s v n a is = omega arith

pub keep_lane : (s v n : ℕ) → Replaces s v v n n
keep_lane s v n = refl

same_top : (s v a : ℕ) → v * 2 ^ s ≡ a * 2 ^ s → v ≡ a
same_top s v a e = sym (shl-shr v s) ∙ (ap (λ (z : ℕ). z / 2 ^ s) e ∙ shl-shr a s)

chosen : (b c : Bool) (s v n e x : ℕ) → n ≡ v * 2 ^ s → b ≡ c → Replaces s v (if c then x else v) n (either b (x * 2 ^ s) n)
chosen true true s v n e x is same = set_lane s v n x is
chosen false false s v n e x is same = refl
chosen true false s v n e x is same = absurd cc
chosen false true s v n e x is same = absurd cc

pub cas_lane : (s v n e x : ℕ) → n ≡ v * 2 ^ s → Replaces s v (if v == e then x else v) n (either (n == e * 2 ^ s) (x * 2 ^ s) n)
cas_lane s v n e x is = chosen (n == e * 2 ^ s) (v == e) s v n e x is (dite (ℕ_discrete v e)
    (λ same. eq-eqb n (e * 2 ^ s) (is ∙ ap (λ (z : ℕ). z * 2 ^ s) same) ∙ sym (eq-eqb v e same))
    (λ ne. ne_eqb n (e * 2 ^ s) (λ hit. ne (same_top s v e (sym is ∙ hit))) ∙ sym (ne_eqb v e ne)))

pub max_lane : (s v n a : ℕ) → n ≡ v * 2 ^ s → Replaces s v (if nat_lt v a then a else v) n (max n (a * 2 ^ s))
max_lane s v n a is = ⊎_elim
    (λ (lt : v < a). let le : n ≤ a * 2 ^ s = (let m : v * 2 ^ s ≤ a * 2 ^ s = mul-le-mul_right (2 ^ s) (omega arith) in omega arith) in
    subst (λ (p : Bool × ℕ). Replaces s v (if p.0 then a else v) n p.1) (λ i. (sym (lt-ltb v a lt) i, sym (max-eq_right le) i)) (set_lane s v n a is))
    (λ (ge : a ≤ v). let le : a * 2 ^ s ≤ n = (let m : a * 2 ^ s ≤ v * 2 ^ s = mul-le-mul_right (2 ^ s) ge in omega arith) in
    subst (λ (p : Bool × ℕ). Replaces s v (if p.0 then a else v) n p.1) (λ i. (sym (le-ltb v a ge) i, sym (max-eq_left le) i)) (keep_lane s v n))
    (cases_lt v a)

pub min_lane : (s v n a : ℕ) → n ≡ v * 2 ^ s → Replaces s v (if nat_lt a v then a else v) n (min n (a * 2 ^ s))
min_lane s v n a is = ⊎_elim
    (λ (lt : a < v). let le : a * 2 ^ s ≤ n = (let m : a * 2 ^ s ≤ v * 2 ^ s = mul-le-mul_right (2 ^ s) (omega arith) in omega arith) in
    subst (λ (p : Bool × ℕ). Replaces s v (if p.0 then a else v) n p.1) (λ i. (sym (lt-ltb a v lt) i, sym (min-eq_right le) i)) (set_lane s v n a is))
    (λ (ge : v ≤ a). let le : n ≤ a * 2 ^ s = (let m : v * 2 ^ s ≤ a * 2 ^ s = mul-le-mul_right (2 ^ s) ge in omega arith) in
    subst (λ (p : Bool × ℕ). Replaces s v (if p.0 then a else v) n p.1) (λ i. (sym (le-ltb a v ge) i, sym (min-eq_left le) i)) (keep_lane s v n))
    (cases_lt a v)

xor_low : (r : ℕ) → r < 2 → bit_xor r 1 ≡ 1 - r
xor_low zero lt = refl
xor_low (suc zero) lt = refl
xor_low (suc (suc r)) lt = absurd (omega arith)

-- all bits turned
pub xor_ones : (d v : ℕ) → v < 2 ^ d → bit_xor v (2 ^ d - 1) ≡ 2 ^ d - 1 - v
xor_ones zero v lt = let none : v ≡ 0 = omega arith in subst (λ (z : ℕ). bit_xor z 0 ≡ 0 - z) (sym none) refl
xor_ones (suc d) v lt =
    let pos = pow_pos d in
    let double : 2 ^ suc d ≡ 2 ^ d * 2 = (let e : suc d ≡ d + 1 = omega arith in ap (λ (z : ℕ). 2 ^ z) e ∙ pow-add 2 d 1) in
    let half : v / 2 < 2 ^ d = shr_below v d 1 (let e : d + 1 ≡ suc d = omega arith in subst (λ (z : ℕ). v < 2 ^ z) (sym e) lt) in
    let split : v ≡ v / 2 * 2 + v % 2 = sym (shr_split v 1) in
    let low : v % 2 < 2 = mod_below v 2 (omega arith) in
    let mask : 2 ^ suc d - 1 ≡ (2 ^ d - 1) * 2 + 1 = omega arith in
    let ih = xor_ones d (v / 2) half in
    let step : bit_xor v (2 ^ suc d - 1) ≡ (2 ^ d - 1 - v / 2) * 2 + (1 - v % 2) =
    (λ i. bit_xor (split i) (mask i)) ∙ (xor_block 1 (v / 2) (2 ^ d - 1) (v % 2) 1 low (omega arith) ∙ (λ i. ih i * 2 + xor_low (v % 2) low i)) in
    let result : (2 ^ d - 1 - v / 2) * 2 + (1 - v % 2) ≡ 2 ^ suc d - 1 - v = omega arith in
    step ∙ result

-- a bit taken away
pub and_without : (d v b : ℕ) → v < 2 ^ d → b < 2 ^ d → bit_and v (2 ^ d - 1 - b) ≡ v - bit_and v b
and_without d v b small fits = let e = and-not d b v fits small in let x = and_comm v (2 ^ d - 1 - b) in let y = and_comm v b in omega (arith, e, x, y)

-- a word with another value in a lane is a word
pub put_fits : (s d n new : ℕ) → s + d ≤ 64 → n < 2 ^ 64 → new < 2 ^ d → n - (n / 2 ^ s % 2 ^ d) * 2 ^ s + new * 2 ^ s < 2 ^ 64
put_fits s d n new within below fits =
    let v : ℕ = n / 2 ^ s % 2 ^ d in
    let c = cut s d v n record { within = within; small = mod_below (n / 2 ^ s) (2 ^ d) (pow_pos d); below = below; bits = refl } in
    let high : ℕ = c.high in let low : ℕ = c.low in
    let is : n ≡ (high * 2 ^ d + v) * 2 ^ s + low = c.is in
    let low_fits : low < 2 ^ s = c.low_fits in
    let high_fits : high + 1 ≤ 2 ^ c.top = (let h = c.high_fits in omega arith) in
    let a : (high + 1) * 2 ^ d ≤ 2 ^ c.top * 2 ^ d = mul-le-mul_right (2 ^ d) high_fits in
    let b : high * 2 ^ d + new + 1 ≤ 2 ^ c.top * 2 ^ d = omega arith in
    let e : (high * 2 ^ d + new + 1) * 2 ^ s ≤ 2 ^ c.top * 2 ^ d * 2 ^ s = mul-le-mul_right (2 ^ s) b in
    let all = total s d c.top c.whole in
    let minus : n - v * 2 ^ s ≡ high * 2 ^ d * 2 ^ s + low = omega arith in
    omega arith

-- in blocks: the lane is new, and what lies below and above it is as it was
pub replaced_blocks : (s d v new n m : ℕ) → HasLane s d v n → new < 2 ^ d → Replaces s v new n m → IsReplaced s d new n m
replaced_blocks s d v new n m h fits r =
    let c = cut s d v n h in
    let high : ℕ = c.high in let low : ℕ = c.low in let is = c.is in
    let low_fits : low < 2 ^ s = c.low_fits in
    let lane_fits : v < 2 ^ d = c.lane_fits in
    let now : m ≡ (high * 2 ^ d + new) * 2 ^ s + low = omega (arith, is, r) in
    let up : (x : ℕ) → x < 2 ^ d → ((high * 2 ^ d + x) * 2 ^ s + low) / 2 ^ (s + d) ≡ high = λ x small.
    ap (λ (z : ℕ). ((high * 2 ^ d + x) * 2 ^ s + low) / z) (pow-add 2 s d)
    ∙ (sym (div-div ((high * 2 ^ d + x) * 2 ^ s + low) s d) ∙ (ap (λ (z : ℕ). z / 2 ^ d) (div-mul-add (high * 2 ^ d + x) (2 ^ s) low low_fits) ∙ div-mul-add high (2 ^ d) x small)) in
    record {
      lane = ap (λ (z : ℕ). z / 2 ^ s % 2 ^ d) now ∙ (ap (λ (z : ℕ). z % 2 ^ d) (div-mul-add (high * 2 ^ d + new) (2 ^ s) low low_fits) ∙ mod-mul-add high (2 ^ d) new fits);
      below = ap (λ (z : ℕ). z % 2 ^ s) now ∙ (mod-mul-add (high * 2 ^ d + new) (2 ^ s) low low_fits ∙ sym (ap (λ (z : ℕ). z % 2 ^ s) is ∙ mod-mul-add (high * 2 ^ d + v) (2 ^ s) low low_fits));
      above = ap (λ (z : ℕ). z / 2 ^ (s + d)) now ∙ (up new fits ∙ sym (ap (λ (z : ℕ). z / 2 ^ (s + d)) is ∙ up v lane_fits));
    }
  where
    div-div : (x j k : ℕ) → x / 2 ^ j / 2 ^ k ≡ x / (2 ^ j * 2 ^ k)
    div-div x j k = shr-shr x j k ∙ ap (λ (z : ℕ). x / z) (pow-add 2 j k)
