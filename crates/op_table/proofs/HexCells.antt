-- Hexadecimal digits in 16 cells, of which the last ones are written.
use Rattle.std.proofs.Common.{◌≡◌, false, ℕ, zero, suc, ◌+◌, ◌-◌, ◌/◌, ◌%◌, ◌^◌, ◌<◌, ◌≤◌, List, ◌∷◌, length, drop, set, sym, ap, subst, ◌∙◌, arith, pow-suc, add-one, drop_of_length-le}
use Rattle.std.proofs.lemmas.List.{drop-set}
use Rattle.std.specs.Fmt.{digits, digit_glyph}
use Rattle.op_table.proofs.Spelled.{spelled, last_digit, spelled-whole, spelled-last, spelled-step}

fewer : (at n : ℕ) → n < 16 ^ suc at → n / 16 < 16 ^ at
fewer at n small = omega (arith, pow-suc 16 at)

-- `rest` is left to write, into the cells up to `at`
pub record IsSpelled (cells : List ℕ) (at rest n : ℕ) : Type 0 where
  pub written : spelled 16 (at + 49) rest (drop (at + 1) cells) ≡ digits 16 false n
  pub within : at < 16
  pub room : rest < 16 ^ (at + 1)

pub spelled_first : (cells : List ℕ) (n : ℕ) → length cells ≡ 16 → n < 2 ^ 64 → IsSpelled cells 15 n n
spelled_first cells n size small = record {
  written = ap (spelled 16 64 n) (drop_of_length-le cells {i = 16} (omega arith)) ∙ spelled-whole 16 n;
  within = omega arith;
  room = omega arith;
}

-- the last digit goes before those that are written
next_digit : (cells : List ℕ) (at n glyph : ℕ) → at < length cells → glyph ≡ last_digit 16 n → drop at (set cells at glyph) ≡ last_digit 16 n ∷ drop (at + 1) cells
next_digit cells at n glyph within e = drop-set cells at glyph within ∙ ap (λ (g : ℕ). g ∷ drop (at + 1) cells) e

pub spelled_more : (cells : List ℕ) (at rest n glyph : ℕ) → length cells ≡ 16 → IsSpelled cells at rest n → 16 ≤ rest → glyph ≡ last_digit 16 rest → IsSpelled (set cells at glyph) (at - 1) (rest / 16) n
spelled_more cells zero rest n glyph size s more e = absurd (omega arith)
spelled_more cells (suc j) rest n glyph size s more e = record {
  written = (λ i. spelled 16 (room i) (rest / 16) (drop (here i) (set cells (suc j) glyph)))
      ∙ ap (spelled 16 (j + 49) (rest / 16)) (next_digit cells (suc j) rest glyph (omega arith) e)
      ∙ sym (spelled-step 16 (j + 49) rest (drop (suc j + 1) cells) (λ none. omega arith))
      ∙ ap (λ (k : ℕ). spelled 16 k rest (drop (suc j + 1) cells)) count
      ∙ s.written;
  within = omega arith;
  room = subst (λ (k : ℕ). rest / 16 < 16 ^ k) (sym here) (fewer (suc j) rest (subst (λ (k : ℕ). rest < 16 ^ k) (add-one (suc j)) s.room));
}
  where
    here : suc j - 1 + 1 ≡ suc j
    here = omega arith

    room : suc j - 1 + 49 ≡ j + 49
    room = omega arith

    count : suc (j + 49) ≡ suc j + 49
    count = omega arith

pub spelled_all : (cells : List ℕ) (at rest n glyph : ℕ) → length cells ≡ 16 → IsSpelled cells at rest n → rest < 16 → glyph ≡ digit_glyph false rest → drop at (set cells at glyph) ≡ digits 16 false n
spelled_all cells at rest n glyph size s last e =
    next_digit cells at rest glyph (omega arith) (e ∙ ap (digit_glyph false) alone)
    ∙ sym (spelled-last 16 (at + 48) rest (drop (at + 1) cells) (omega arith))
    ∙ ap (λ (k : ℕ). spelled 16 k rest (drop (at + 1) cells)) count
    ∙ s.written
  where
    alone : rest ≡ rest % 16
    alone = omega arith

    count : suc (at + 48) ≡ at + 49
    count = omega arith
