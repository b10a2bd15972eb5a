-- Lists that are made a number of times over, and the lines of pieces.
use Rattle.std.proofs.Common.{◌≡◌, ℕ, zero, suc, ◌+◌, ◌-◌, ◌*◌, ◌%◌, ◌<◌, ◌≤◌, List, [], ◌∷◌, ◌++◌, length, refl, sym, subst, ap, inl, inr, ◌∙◌, arith, length-append}
use Rattle.std.specs.Prelude.{slice_get}
use Rattle.std.specs.List.{AllByRecursion}
use Rattle.std.proofs.Math.Nat.{mod-eq_of_lt, mod-eq-sub-mod, zero-mul, suc-mul, mul-zero}
use Rattle.std.proofs.lemmas.Bool.Decides.{leb_tells}
use Rattle.std.proofs.lemmas.Grind.{flat_map-append}
use Rattle.std.proofs.lemmas.List.{append-nil}
use Rattle.place_core.specs.declared.script.Line.{Line}
use Rattle.place_core.specs.declared.script.Piece.{Piece}
use Rattle.place_core.specs.declared.script.Piece.TheVariants.{Block}
use Rattle.place_core.proofs.EntryLists.{all_append}
use Rattle.place_core.specs.Pieces.{times_over, piece_lines, script_lines}

module _ {X : Type 0} where
  pub slice_get-front : (xs ys : List X) (i : ℕ) → i < length xs → slice_get (xs ++ ys) i ≡ slice_get xs i
  slice_get-front [] ys i within = absurd (omega arith)
  slice_get-front (x ∷ xs) ys zero within = refl
  slice_get-front (x ∷ xs) ys (suc i) within = slice_get-front xs ys i (omega arith)

  pub slice_get-behind : (xs ys : List X) (i : ℕ) → length xs ≤ i → slice_get (xs ++ ys) i ≡ slice_get ys (i - length xs)
  slice_get-behind [] ys i past = ap (slice_get ys) (omega arith)
  slice_get-behind (x ∷ xs) ys zero past = absurd (omega arith)
  slice_get-behind (x ∷ xs) ys (suc i) past = slice_get-behind xs ys i (omega arith) ∙ ap (slice_get ys) (omega arith)

  pub times_over-none : (n : ℕ) (xs : List X) → length xs < 1 → times_over n xs ≡ []
  times_over-none zero xs none = refl
  times_over-none (suc n) [] none = times_over-none n [] none
  times_over-none (suc n) (x ∷ xs) none = absurd (omega arith)

  pub length-times_over : (n : ℕ) (xs : List X) → length (times_over n xs) ≡ n * length xs
  length-times_over zero xs = sym (zero-mul (length xs))
  length-times_over (suc n) xs = omega (arith, length-append xs (times_over n xs), length-times_over n xs, suc-mul n (length xs))

  pub slice_get-times_over : (n : ℕ) (xs : List X) (i : ℕ) → i < n * length xs → slice_get (times_over n xs) i ≡ slice_get xs (i % length xs)
  slice_get-times_over zero xs i within = absurd (omega (arith, zero-mul (length xs)))
  slice_get-times_over (suc n) xs i within =
      elim (leb_tells (length xs) i) [
        | inl past ↦
            slice_get-behind xs (times_over n xs) i past.1
            ∙ slice_get-times_over n xs (i - length xs) (omega (arith, past.1, suc-mul n (length xs)))
            ∙ ap (slice_get xs) (sym (mod-eq-sub-mod past.1))
        | inr here ↦ slice_get-front xs (times_over n xs) i here.1 ∙ ap (slice_get xs) (sym (mod-eq_of_lt here.1))
      ]

-- a product above a number has no factor 0
some_factor : (i n m : ℕ) → i < n * m → 0 < m
some_factor i n zero within = absurd (omega (arith, mul-zero n))
some_factor i n (suc m) within = omega arith

-- ---- blocks

pub length-block : (p : Piece) (times : ℕ) (lines : List Line) → p ≡ Block times lines → times * length lines ≡ length (piece_lines p)
length-block p times lines is = sym (ap (λ q. length (piece_lines q)) is ∙ length-times_over times lines)

pub block_has_lines : (p : Piece) (times : ℕ) (lines : List Line) (i : ℕ) → p ≡ Block times lines → i < length (piece_lines p) → 0 < length lines
block_has_lines p times lines i is within = some_factor i times (length lines) (omega (arith, length-block p times lines is))

pub slice_get-block : (p : Piece) (times : ℕ) (lines : List Line) (i : ℕ) → p ≡ Block times lines → i < length (piece_lines p) → slice_get (piece_lines p) i ≡ slice_get lines (i % length lines)
slice_get-block p times lines i is within =
    ap (λ q. slice_get (piece_lines q) i) is ∙ slice_get-times_over times lines i (omega (arith, length-block p times lines is))

-- ---- a piece more

pub length-script_lines : (pieces : List Piece) (p : Piece) → length (script_lines (pieces ++ p ∷ [])) ≡ length (script_lines pieces) + length (piece_lines p)
length-script_lines pieces p =
    ap length (flat_map-append piece_lines pieces (p ∷ []))
    ∙ length-append (script_lines pieces) (piece_lines p ++ [])
    ∙ ap (λ (lines : List Line). length (script_lines pieces) + length lines) (append-nil (piece_lines p))

-- ---- what holds of each line

module _ (P : Line → Type 0) where
  pub all_times_over : (n : ℕ) (xs : List Line) → AllByRecursion P xs → AllByRecursion P (times_over n xs)
  all_times_over zero xs all = tt
  all_times_over (suc n) xs all = all_append P xs (times_over n xs) all (all_times_over n xs all)

  pub all_piece_more : (pieces : List Piece) (p : Piece) → AllByRecursion P (script_lines pieces) → AllByRecursion P (piece_lines p) → AllByRecursion P (script_lines (pieces ++ p ∷ []))
  all_piece_more pieces p first more =
      subst (AllByRecursion P) (sym (flat_map-append piece_lines pieces (p ∷ []) ∙ ap (λ (lines : List Line). script_lines pieces ++ lines) (append-nil (piece_lines p))))
      (all_append P (script_lines pieces) (piece_lines p) first more)

  -- a block more
  pub all_block_more : (pieces : List Piece) (times : ℕ) (lines : List Line) → AllByRecursion P (script_lines pieces) → AllByRecursion P lines → AllByRecursion P (script_lines (pieces ++ Block times lines ∷ []))
  all_block_more pieces times lines first more = all_piece_more pieces (Block times lines) first (all_times_over times lines more)
