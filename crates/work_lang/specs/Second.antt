-- The second form of a workload: version 2 of the language, where equal lines that follow one another are one block.
use Rattle.std.specs.Prelude.{◌≡◌, ◌≢◌, ◌≤◌, ◌<◌, ◌^◌, ◌⊎◌, List, [], ◌∷◌}
use Rattle.place_core.specs.declared.script.Line.{Line}
use Rattle.place_core.specs.declared.script.Piece.{Piece}
use Rattle.place_core.specs.declared.script.Piece.TheVariants.{One, Block}
use Rattle.place_core.specs.Pieces.{script_lines}
use Rattle.work_lang.specs.Spelling.{Pairs}
use Rattle.work_lang.specs.Workload.{Workload, threads_of}

-- the piece makes this line alone: once by itself, or more often by a block
abbrev pub IsRunOf : Line → Piece → Type 0
IsRunOf line (One l) = l ≡ line
IsRunOf line (Block times lines) = (2 ≤ times) × (times < 2 ^ 32) × (lines ≡ line ∷ [])

-- no line is followed by an equal one
abbrev pub DifferFromNext : List Line → Type 0
DifferFromNext [] = Unit {0}
DifferFromNext (x ∷ []) = Unit {0}
DifferFromNext (x ∷ y ∷ ys) = (x ≢ y) × DifferFromNext (y ∷ ys)

-- the pieces are the longest runs of equal lines
pub record AreLongestRuns (lines : List Line) (pieces : List Piece) : Type 0 where
  -- of each run its line
  pub firsts : List Line
  pub runs : Pairs IsRunOf firsts pieces
  pub longest : DifferFromNext firsts
  pub made : script_lines pieces ≡ lines

-- the same calls on the same objects and target, in version 2 and by longest runs
pub record IsRewritten (w v : Workload) : Type 0 where
  pub first : w.version ≡ 1
  pub version : v.version ≡ 2
  pub target : v.target ≡ w.target
  pub objects : v.objects ≡ w.objects
  pub scripts : Pairs AreLongestRuns (threads_of w) v.scripts

-- a workload of version 2 is its own second form
abbrev pub IsSecond : Workload → Workload → Type 0
IsSecond w v = ((w.version ≡ 2) × (v ≡ w)) ⊎ IsRewritten w v
