-- The lines of a script, made from its pieces.
use Rattle.std.specs.Prelude.{ℕ, zero, suc, List, [], ◌∷◌, ◌++◌}
use Rattle.std.specs.List.{flat_map}
use Rattle.place_core.specs.declared.script.Line.{Line}
use Rattle.place_core.specs.declared.script.Piece.{Piece}
use Rattle.place_core.specs.declared.script.Piece.TheVariants.{One, Block}

-- a list, this many times over
abbrev pub times_over : {A : Type 0} → ℕ → List A → List A
times_over zero xs = []
times_over (suc n) xs = xs ++ times_over n xs

-- a line, or a block's lines as often as it says
abbrev pub piece_lines : Piece → List Line
piece_lines (One line) = line ∷ []
piece_lines (Block times lines) = times_over times lines

-- the lines of a script, in the order in which its calls are made
abbrev pub script_lines : List Piece → List Line
script_lines pieces = flat_map piece_lines pieces
