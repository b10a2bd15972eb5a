-- Workloads: a version of the language, a target, objects in declared order, and a script for each thread.
use Rattle.std.specs.Prelude.{◌≡◌, ℕ, ◌≤◌, ◌<◌, ◌^◌, true, List, [], ◌∷◌, ◌++◌, length, map, position, slice_get, Option, None, IsSomeAnd}
use Rattle.std.specs.List.{sum_by, AllByRecursion}
use Rattle.std.specs.Str.{bytes_eq}
use Rattle.op_table.specs.declared.call.Call.{Call}
use Rattle.op_table.specs.Call.{CallFits}
use Rattle.op_table.specs.CallTests.{is_newer}
use Rattle.op_table.specs.Orders.{order_fits}
use Rattle.target_desc.specs.declared.target.Target.{Target}
use Rattle.target_desc.specs.Target.{IsTarget, IsVersion, IsOfVersion}
use Rattle.place_core.specs.declared.name.Declared.{Declared}
use Rattle.place_core.specs.declared.script.Line.{Line}
use Rattle.place_core.specs.declared.script.Piece.{Piece}
use Rattle.place_core.specs.declared.script.Piece.TheVariants.{One, Block}
use Rattle.place_core.specs.DeclaredObjects.{IsDeclared}
use Rattle.place_core.specs.Name.{is_name}
use Rattle.place_core.specs.Pieces.{script_lines}
use Rattle.work_lang.specs.Operands.{HasPosition}
use Rattle.work_lang.specs.Limits.{most_threads, limits_of}

pub record Workload : Type 0 where
  -- of the language: 1 or 2
  pub version : ℕ
  pub target : Target
  pub objects : List Declared
  -- of each thread its script
  pub scripts : List (List Piece)

-- the lines of each thread, in the order in which its calls are made
abbrev pub threads_of : Workload → List (List Line)
threads_of w = map script_lines w.scripts

-- the number of the object of that name
abbrev pub object_of : List Declared → List ℕ → Option ℕ
object_of objects w = position (λ d. bytes_eq d.name w) objects

-- ---- what a workload keeps

-- each name is one, and no object before has it
abbrev pub AreDeclared : List Declared → List Declared → Type 0
AreDeclared before [] = Unit {0}
AreDeclared before (d ∷ ds) = (is_name d.name ≡ true) × (object_of before d.name ≡ None) × AreDeclared (before ++ d ∷ []) ds

-- the object has the call, and the call its operands and orders
abbrev pub HasLine : Line → Declared → Type 0
HasLine line d = CallFits d.kind line.call × HasPosition line.call × (order_fits line.call line.success line.failure ≡ true)

-- the line's object is declared, and has its call
abbrev pub LineFits : List Declared → Line → Type 0
LineFits objects line = IsSomeAnd (slice_get objects line.object) (HasLine line)

-- version 1 has no call that answers the new value
abbrev pub IsCallOf : ℕ → Call → Type 0
IsCallOf version call = is_newer call ≡ true → version ≡ 2

-- the line may stand in a workload of that version with these objects
abbrev pub LineStands : ℕ → List Declared → Line → Type 0
LineStands version objects line = LineFits objects line × IsCallOf version line.call

-- version 1 has no blocks; a block is made at least once
abbrev pub PieceStands : ℕ → List Declared → Piece → Type 0
PieceStands version objects (One line) = LineStands version objects line
PieceStands version objects (Block times lines) = (version ≡ 2) × (1 ≤ times) × (times < 2 ^ 32) × AllByRecursion (LineStands version objects) lines

-- the call lines that a piece is written with
abbrev pub written_lines : Piece → ℕ
written_lines (One line) = 1
written_lines (Block times lines) = length lines

-- the call lines that a script is written with
abbrev pub lines_written : List Piece → ℕ
lines_written script = sum_by written_lines script

-- the calls that a script makes
abbrev pub calls_made : List Piece → ℕ
calls_made script = length (script_lines script)

pub record IsWork (w : Workload) : Type 0 where
  pub version : IsVersion w.version
  pub target : IsTarget w.target
  pub of_version : IsOfVersion w.version w.target
  pub names : AreDeclared [] w.objects
  pub objects : AllByRecursion IsDeclared w.objects
  pub pieces : AllByRecursion (λ script. AllByRecursion (PieceStands w.version w.objects) script) w.scripts
  pub few_objects : length w.objects ≤ (limits_of w.version).objects
  pub few_threads : length w.scripts ≤ most_threads
  pub few_lines : AllByRecursion (λ script. lines_written script ≤ (limits_of w.version).lines) w.scripts
  pub few_lines_in_all : sum_by lines_written w.scripts ≤ (limits_of w.version).lines_in_all
  pub few_calls : AllByRecursion (λ script. calls_made script ≤ (limits_of w.version).calls) w.scripts
  pub few_calls_in_all : sum_by calls_made w.scripts ≤ (limits_of w.version).calls_in_all
