-- Blocks of bytes with 0 after them, and the words that spell them.
use Rattle.std.proofs.Common.{◌≡◌, ℕ, zero, suc, ◌+◌, ◌-◌, ◌*◌, ◌/◌, ◌≤◌, ◌<◌, List, [], ◌∷◌, ◌++◌, length, take, drop, map, set, get_or, refl, ap, sym, ◌∙◌, subst, arith}
use Rattle.std.specs.Prelude.{replicate}
use Rattle.std.specs.List.{flat_map}
use Rattle.std.specs.Int.{w64, to_le_bytes}
use Rattle.std.specs.Simd.{first_chunks}
use Rattle.std.proofs.Math.Seq.{take-append_seam, take-add}
use Rattle.std.proofs.lemmas.List.{length-take-le, length-replicate, append-nil, take_all, length-append, drop-replicate, take_more, take_more_set, map-append}
use Rattle.std.proofs.lemmas.List.Folds.{flat_map-map}
use Rattle.any_size.specs.Bytes.{bytes_of, IsPadded}

pub padded_count : (n : ℕ) (bytes : List ℕ) → IsPadded n bytes → length (take n bytes) ≡ n
padded_count n bytes h = let few = h.few in let all = h.all in length-take-le n bytes (omega arith)

pub padded_bytes : (n : ℕ) (bytes : List ℕ) → IsPadded n bytes → take n bytes ++ replicate (64 - length (take n bytes)) 0 ≡ bytes
padded_bytes n bytes h = ap (λ (z : ℕ). take n bytes ++ replicate (64 - z) 0) (padded_count n bytes h) ∙ sym h.zeros

-- bytes with zeros after them
pub padded_of : (bs : List ℕ) → 1 ≤ length bs → length bs ≤ 64 → IsPadded (length bs) (bs ++ replicate (64 - length bs) 0)
padded_of bs some few = record {
  some = some;
  few = few;
  all = length-append bs (replicate (64 - length bs) 0) ∙ (ap (λ (z : ℕ). length bs + z) (length-replicate (64 - length bs) 0) ∙ omega arith);
  zeros = ap (λ (l : List ℕ). l ++ replicate (64 - length bs) 0) (sym (take-append_seam bs (replicate (64 - length bs) 0)));
}

pub padded_copy : (bs new rest : List ℕ) → new ≡ bs → rest ≡ replicate 64 0 → 1 ≤ length bs → length bs ≤ 64 → IsPadded (length bs) (new ++ drop (length bs) rest)
padded_copy bs new rest same zeros some few =
    let tail : drop (length bs) rest ≡ replicate (64 - length bs) 0 = ap (drop (length bs)) zeros ∙ drop-replicate (length bs) 64 0 in
    subst (IsPadded (length bs)) (λ i. sym same i ++ sym tail i) (padded_of bs some few)

-- the first chunks of a list, one after another, are its front
pub chunks_front : (n k : ℕ) (xs : List ℕ) → flat_map (λ x. x) (first_chunks n k xs) ≡ take (k * n) xs
chunks_front n zero xs = ap (λ (z : ℕ). take z xs) (let e : 0 ≡ 0 * n = omega arith in e)
chunks_front n (suc k) xs = ap (λ (l : List ℕ). take n xs ++ l) (chunks_front n k (drop n xs)) ∙ (sym (take-add n (k * n) xs) ∙ ap (λ (z : ℕ). take z xs) (let e : n + k * n ≡ suc k * n = omega arith in e))

-- words whose bytes are chunks
pub bytes_of_chunks : (words : List ℕ) (parts : List (List ℕ)) → map (to_le_bytes w64) words ≡ parts → bytes_of words ≡ flat_map (λ x. x) parts
bytes_of_chunks words parts e = sym (flat_map-map (λ (x : List ℕ). x) (to_le_bytes w64) words) ∙ ap (flat_map (λ (x : List ℕ). x)) e

-- one chunk more
pub chunk_more : (words : List ℕ) (parts : List (List ℕ)) (i n : ℕ) → i < length words → i < length parts → to_le_bytes w64 n ≡ get_or parts i [] → map (to_le_bytes w64) (take i words) ≡ take i parts
    → map (to_le_bytes w64) (take (i + 1) (set words i n)) ≡ take (i + 1) parts
chunk_more words parts i n here there is before = ap (map (to_le_bytes w64)) (take_more_set words i n here)
    ∙ (map-append (to_le_bytes w64) (take i words) (n ∷ []) ∙ ((λ j. before j ++ is j ∷ []) ∙ sym (take_more parts i [] there)))

pub part_more : (words : List ℕ) (parts : List (List ℕ)) (i : ℕ) (bs : List ℕ) → i < length words → i < length parts → bs ≡ to_le_bytes w64 (get_or words i 0) → map (to_le_bytes w64) (take i words) ≡ take i parts
    → map (to_le_bytes w64) (take (i + 1) words) ≡ take (i + 1) (set parts i bs)
part_more words parts i bs here there is before = ap (map (to_le_bytes w64)) (take_more words i 0 here)
    ∙ (map-append (to_le_bytes w64) (take i words) (get_or words i 0 ∷ []) ∙ ((λ j. before j ++ sym is j ∷ []) ∙ sym (take_more_set parts i bs there)))

-- eight words whose bytes are those of a block
pub words_spell : (words : List ℕ) (parts : List (List ℕ)) (bytes : List ℕ) (n i : ℕ) → IsPadded n bytes → 8 ≤ i → length words ≡ 8 → length parts ≡ 8 → parts ≡ first_chunks 8 (length bytes / 8) bytes → map (to_le_bytes w64) (take i words) ≡ take i parts
    → bytes_of words ≡ take n bytes ++ replicate (64 - length (take n bytes)) 0
words_spell words parts bytes n i h all words_len parts_len cut same =
    let whole : map (to_le_bytes w64) words ≡ parts = ap (map (to_le_bytes w64)) (sym (take_all i words (omega arith))) ∙ (same ∙ take_all i parts (omega arith)) in
    let long : length bytes ≡ 64 = h.all in
    let eight : length bytes / 8 ≡ 8 = ap (λ (z : ℕ). z / 8) long in
    bytes_of_chunks words parts whole ∙ (ap (flat_map (λ (x : List ℕ). x)) (cut ∙ ap (λ (z : ℕ). first_chunks 8 z bytes) eight)
    ∙ (chunks_front 8 8 bytes ∙ (take_all 64 bytes (omega arith) ∙ sym (padded_bytes n bytes h))))

pub spelled_padded : (words : List ℕ) (parts : List (List ℕ)) (bytes flat : List ℕ) (n i : ℕ) → 1 ≤ n → n ≤ 64 → 8 ≤ i → length words ≡ 8 → length parts ≡ 8 → length bytes ≡ 64 → bytes ≡ flat → flat ≡ flat_map (λ x. x) parts
    → map (to_le_bytes w64) (take i words) ≡ take i parts → bytes_of words ≡ take n (bytes_of words) ++ replicate (64 - n) 0 → (bytes ≡ bytes_of words) × IsPadded n bytes
spelled_padded words parts bytes flat n i some few all words_len parts_len long copied flat_is same zeros =
    let whole : map (to_le_bytes w64) words ≡ parts = ap (map (to_le_bytes w64)) (sym (take_all i words (omega arith))) ∙ (same ∙ take_all i parts (omega arith)) in
    let is : bytes ≡ bytes_of words = copied ∙ (flat_is ∙ sym (bytes_of_chunks words parts whole)) in
    (is, record { some = some; few = few; all = long; zeros = is ∙ (zeros ∙ ap (λ (l : List ℕ). take n l ++ replicate (64 - n) 0) (sym is)) })
