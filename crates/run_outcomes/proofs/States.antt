-- The lines of a thread by its script, and the longest script.
use Rattle.std.proofs.Common.{◌≡◌, ℕ, zero, suc, ◌<◌, List, [], ◌∷◌, length, map, slice_index_or, refl, sym, ap, ◌∙◌, arith}
use Rattle.place_core.specs.declared.script.Piece.{Piece}
use Rattle.place_core.specs.Pieces.{script_lines}
use Rattle.run_steps.specs.Parts.{lines_of}

pub lines_at : (scripts : List (List Piece)) (t : ℕ) (d : List Piece) → t < length scripts → lines_of (map script_lines scripts) t ≡ script_lines (slice_index_or scripts t d)
lines_at [] t d within = absurd (omega arith)
lines_at (script ∷ scripts) zero d within = refl
lines_at (script ∷ scripts) (suc t) d within = lines_at scripts t d (omega arith)

-- how many they are, where the script at t is d itself
pub line_count : (scripts : List (List Piece)) (t : ℕ) (d : List Piece) → t < length scripts → d ≡ slice_index_or scripts t d → length (script_lines d) ≡ length (lines_of (map script_lines scripts) t)
line_count scripts t d within is = ap (λ (p : List Piece). length (script_lines p)) is ∙ ap (λ l. length l) (sym (lines_at scripts t d within))
