-- Words that spell blocks, with 0 after their bytes.
use Rattle.std.proofs.Common.{◌≡◌, ◌≢◌, ℕ, zero, suc, ◌+◌, ◌-◌, ◌*◌, ◌/◌, ◌≤◌, ◌<◌, List, [], ◌∷◌, ◌++◌, length, take, drop, get_or, refl, ap, sym, ◌∙◌, subst, arith, append_assoc, length-append}
use Rattle.std.specs.Prelude.{replicate}
use Rattle.std.specs.Int.{w64, to_le_bytes}
use Rattle.std.proofs.Math.Seq.{take-append-add}
use Rattle.std.proofs.lemmas.Grind.{flat_map-append}
use Rattle.std.proofs.lemmas.List.{take_all, take_at, length-take-le, length-replicate, replicate-append-replicate, take-replicate}
use Rattle.any_size.specs.Bytes.{bytes_of, words_for, Spells}

take_none : (n : ℕ) → take n (bytes_of []) ≡ bytes_of []
take_none zero = refl
take_none (suc n) = refl

-- the bytes of the first words
pub bytes_front : (c : ℕ) (words : List ℕ) → bytes_of (take c words) ≡ take (c * 8) (bytes_of words)
bytes_front zero words = ap (λ (z : ℕ). take z (bytes_of words)) (let e : 0 ≡ 0 * 8 = omega arith in e)
bytes_front (suc c) [] = sym (take_none (suc c * 8))
bytes_front (suc c) (w ∷ ws) = ap (λ (l : List ℕ). to_le_bytes w64 w ++ l) (bytes_front c ws)
    ∙ (sym (take-append-add (to_le_bytes w64 w) (bytes_of ws) (c * 8)) ∙ ap (λ (z : ℕ). take z (bytes_of (w ∷ ws))) (let e : 8 + c * 8 ≡ suc c * 8 = omega arith in e))

-- words of 0
pub bytes_zero : (k : ℕ) → bytes_of (replicate k 0) ≡ replicate (8 * k) 0
bytes_zero zero = ap (λ (z : ℕ). replicate z 0) (let e : 0 ≡ 8 * 0 = omega arith in e)
bytes_zero (suc k) = ap (λ (l : List ℕ). replicate 8 0 ++ l) (bytes_zero k) ∙ (replicate-append-replicate 8 (8 * k) 0 ∙ ap (λ (z : ℕ). replicate z 0) (let e : 8 + 8 * k ≡ 8 * suc k = omega arith in e))

-- how many words a block takes
pub count_enough : (n : ℕ) → 1 ≤ n → n ≤ 64 → (1 ≤ words_for n) × (words_for n ≤ 8) × (n ≤ words_for n * 8)
count_enough n some few = (omega arith, omega arith, omega arith)

-- the first of eight words spell the block that all of them spell
pub front_spells : (words v : List ℕ) (n : ℕ) → length words ≡ 8 → length v ≡ n → 1 ≤ n → n ≤ 64 → bytes_of words ≡ v ++ replicate (64 - length v) 0 → (length (take (words_for n) words) ≡ words_for n) × Spells n (take (words_for n) words) v
front_spells words v n eight count some few spelled =
    let c : ℕ = words_for n in
    let enough = count_enough n some few in
    let low : c ≤ 8 = enough.1 in
    let room : n ≤ c * 8 = enough.2 in
    let long : length (take c words) ≡ c = length-take-le c words (omega arith) in
    let rest : ℕ = c * 8 - n in
    let at : length v + rest ≡ c * 8 = omega arith in
    let small : rest ≡ 8 * length (take c words) - n = omega arith in (
      long,
      record {
        count = count;
        bytes = bytes_front c words ∙ (ap (take (c * 8)) spelled ∙ (ap (λ (z : ℕ). take z (v ++ replicate (64 - length v) 0)) (sym at)
            ∙ (take-append-add v (replicate (64 - length v) 0) rest ∙ ap (λ (l : List ℕ). v ++ l) (take-replicate rest (64 - length v) 0 (omega arith) ∙ ap (λ (z : ℕ). replicate z 0) small))));
      },
    )

-- eight words of which the first were read, and spell a block
pub reads_spell : (read words v : List ℕ) (n : ℕ) → 1 ≤ n → n ≤ 64 → length read ≡ words_for n → words ≡ read ++ replicate (8 - length read) 0 → Spells n read v
    → (bytes_of words ≡ take n (bytes_of words) ++ replicate (64 - n) 0) × (take n (bytes_of words) ≡ v)
reads_spell read words v n some few full are h =
    let enough = count_enough n some few in
    let low : words_for n ≤ 8 = enough.1 in
    let room : n ≤ words_for n * 8 = enough.2 in
    let k : ℕ = length read in
    let count : length v ≡ n = h.count in
    let all : bytes_of words ≡ v ++ replicate (64 - n) 0 = ap bytes_of are ∙ (flat_map-append (to_le_bytes w64) read (replicate (8 - k) 0) ∙ ((λ t. h.bytes t ++ bytes_zero (8 - k) t)
    ∙ (append_assoc v (replicate (8 * k - n) 0) (replicate (8 * (8 - k)) 0)
    ∙ ap (λ (l : List ℕ). v ++ l) (replicate-append-replicate (8 * k - n) (8 * (8 - k)) 0 ∙ ap (λ (z : ℕ). replicate z 0) (let e : (8 * k - n) + 8 * (8 - k) ≡ 64 - n = omega arith in e))))) in
    let front : take n (bytes_of words) ≡ v = ap (take n) all ∙ take_at v (replicate (64 - n) 0) n count in
    (all ∙ ap (λ (l : List ℕ). l ++ replicate (64 - n) 0) (sym front), front)
