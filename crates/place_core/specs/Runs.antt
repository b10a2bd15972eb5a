-- Runs of scripts over cells.
use Rattle.std.specs.Prelude.{◌≡◌, ℕ, ◌+◌, List, [], ◌∷◌, ◌++◌, length, map, slice_get, IsSomeAnd}
use Rattle.std.specs.List.{AllByRecursion}
use Rattle.op_table.specs.declared.call.Call.{Call}
use Rattle.op_table.specs.declared.call.Call.TheVariants.{Load}
use Rattle.op_table.specs.declared.call.Reply.{Reply}
use Rattle.op_table.specs.Call.{CallFits}
use Rattle.place_core.specs.declared.entry.Entry.{Entry}
use Rattle.place_core.specs.declared.script.Line.{Line}
use Rattle.place_core.specs.Histories.{CallersWithin}
use Rattle.place_core.specs.Cells.{Cell, IsLegal, entries_by}

-- the object and the call of an entry
abbrev pub made_of : Entry → ℕ × Call
made_of x = (x.object, x.call)

-- the object and the call that a line asks for
abbrev pub asked_of : Line → ℕ × Call
asked_of line = (line.object, line.call)

-- the calls that lines ask for
abbrev pub asked_by : List Line → List (ℕ × Call)
asked_by lines = map asked_of lines

-- a cell is there, and has the call
abbrev pub HasCall : List Cell → ℕ × Call → Type 0
HasCall cells asked = IsSomeAnd (slice_get cells asked.0) (λ cell. CallFits cell.kind asked.1)

-- each line's object is there, and has its call
abbrev pub ScriptFits : List Cell → List Line → Type 0
ScriptFits cells script = AllByRecursion (λ line. HasCall cells (asked_of line)) script

abbrev pub ScriptsFit : List Cell → List (List Line) → Type 0
ScriptsFit cells scripts = AllByRecursion (ScriptFits cells) scripts

-- the replies of a caller, in order
abbrev pub replies_by : List Entry → ℕ → List Reply
replies_by H c = map (λ (x : Entry). x.reply) (entries_by H c)

-- the replies of each thread, the first of them with number i
abbrev pub replies_from : List Entry → ℕ → List (List Line) → List (List Reply)
replies_from H i [] = []
replies_from H i (script ∷ scripts) = replies_by H i ∷ replies_from H (i + 1) scripts

-- each thread, the first of them with number i, made its script's calls, once and in order
abbrev pub FollowScripts : List Entry → ℕ → List (List Line) → Type 0
FollowScripts H i [] = Unit {0}
FollowScripts H i (script ∷ scripts) = (map made_of (entries_by H i) ≡ map asked_of script) × FollowScripts H (i + 1) scripts

-- a load of each object, from number o on, in order
abbrev pub loads_from : ℕ → List Cell → List (ℕ × Call)
loads_from o [] = []
loads_from o (cell ∷ cells) = (o, Load) ∷ loads_from (o + 1) cells

-- the last entries are caller 0's loads of every object, in order, and it has no other entry
pub record EndsWithLoads (cells : List Cell) (H : List Entry) : Type 0 where
  pub before : List Entry
  pub split : H ≡ before ++ entries_by H 0
  pub loads : map made_of (entries_by H 0) ≡ loads_from 0 cells

-- a legal history of exactly the scripts' calls, and then the last loads
pub record IsCellRun (cells : List Cell) (scripts : List (List Line)) (H : List Entry) : Type 0 where
  pub legal : IsLegal cells H
  pub callers : CallersWithin (λ (x : Entry). x.caller) (length scripts) H
  pub scripted : FollowScripts H 1 scripts
  pub ends : EndsWithLoads cells H
