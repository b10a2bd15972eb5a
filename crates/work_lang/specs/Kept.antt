-- What holds after each line that was read.
use Rattle.std.specs.Prelude.{◌≡◌, ◌≤◌, ◌<◌, ◌^◌, ◌+◌, ◌++◌, ◌⊎◌, true, List, [], length, Option, None}
use Rattle.std.specs.List.{AllByRecursion, sum_by}
use Rattle.target_desc.specs.Target.{IsTarget, IsVersion, IsOfVersion}
use Rattle.place_core.specs.declared.script.Piece.{Piece}
use Rattle.place_core.specs.Name.{is_name}
use Rattle.work_lang.specs.declared.item.Item.{Item}
use Rattle.work_lang.specs.declared.item.Item.TheVariants as items
use Rattle.work_lang.specs.declared.item.OpenBlock.{OpenBlock}
use Rattle.work_lang.specs.declared.reader.Counts.{Counts}
use Rattle.work_lang.specs.declared.item.Awaits.{Awaits}
use Rattle.work_lang.specs.declared.item.Awaits.TheVariants as awaits
use Rattle.work_lang.specs.Limits.{most_threads, limits_of}
use Rattle.place_core.specs.DeclaredObjects.{IsDeclared}
use Rattle.work_lang.specs.Workload.{object_of, AreDeclared, LineStands, PieceStands, lines_written, calls_made}
use Rattle.work_lang.specs.Reading.{State, closed_block, script_so_far, has_room}

-- ---- counters

-- they count a script's written lines and its calls
abbrev pub AreCountsOf : Counts → List Piece → Type 0
AreCountsOf counts script = (counts.lines ≡ lines_written script) × (counts.calls ≡ calls_made script)

-- the counters of the open thread and of all threads, where these are closed, and the open one has these pieces and this block
abbrev pub AreCounts : Counts → Counts → List (List Piece) → List Piece → Option OpenBlock → Type 0
AreCounts in_thread in_all scripts pieces block = AreCountsOf in_thread (pieces ++ closed_block block) × (in_all.lines ≡ sum_by lines_written scripts + in_thread.lines) × (in_all.calls ≡ sum_by calls_made scripts + in_thread.calls)

-- ---- items

-- which item may come in a state
abbrev pub Allowed : State → Item → Type 0
Allowed s (items.Version version) = (s.awaits ≡ awaits.Version) × IsVersion version
Allowed s (items.Target t) = (s.awaits ≡ awaits.Target) × IsTarget t × IsOfVersion s.version t
Allowed s (items.Object d) = (s.awaits ≡ awaits.Object) × (length s.objects < (limits_of s.version).objects) × (is_name d.name ≡ true) × (object_of s.objects d.name ≡ None) × IsDeclared d
Allowed s items.Thread = ((s.awaits ≡ awaits.Object) ⊎ (s.awaits ≡ awaits.Thread)) × (length s.scripts < most_threads)
Allowed s (items.Repeat times) = (s.awaits ≡ awaits.Call) × (s.version ≡ 2) × (s.block ≡ None) × (1 ≤ times) × (times < 2 ^ 32)
Allowed s (items.Call l) = (s.awaits ≡ awaits.Call) × (has_room s ≡ true) × LineStands s.version s.objects l
Allowed s items.End = s.awaits ≡ awaits.Call

-- no thread is open
abbrev pub IsBetween : State → Type 0
IsBetween s = (s.pieces ≡ []) × (s.block ≡ None)

-- what is empty yet; before its line was read the version is 1
abbrev pub IsEmptyYet : Awaits → State → Type 0
IsEmptyYet awaits.Version s = (s.version ≡ 1) × (s.objects ≡ []) × (s.scripts ≡ []) × IsBetween s
IsEmptyYet awaits.Target s = (s.objects ≡ []) × (s.scripts ≡ []) × IsBetween s
IsEmptyYet awaits.Object s = (s.scripts ≡ []) × IsBetween s
IsEmptyYet awaits.Thread s = IsBetween s
IsEmptyYet awaits.Call s = length s.scripts < most_threads

pub record IsKept (s : State) : Type 0 where
  pub version : IsVersion s.version
  pub target : IsTarget s.target
  pub of_version : IsOfVersion s.version s.target
  pub empty : IsEmptyYet s.awaits s
  pub names : AreDeclared [] s.objects
  pub objects : AllByRecursion IsDeclared s.objects
  pub few_objects : length s.objects ≤ (limits_of s.version).objects
  pub few_threads : length s.scripts ≤ most_threads
  pub few_lines : AllByRecursion (λ script. lines_written script ≤ (limits_of s.version).lines) s.scripts
  pub few_calls : AllByRecursion (λ script. calls_made script ≤ (limits_of s.version).calls) s.scripts
  pub pieces : AllByRecursion (λ script. AllByRecursion (PieceStands s.version s.objects) script) s.scripts
  pub few_lines_open : lines_written (script_so_far s) ≤ (limits_of s.version).lines
  pub few_calls_open : calls_made (script_so_far s) ≤ (limits_of s.version).calls
  pub pieces_open : AllByRecursion (PieceStands s.version s.objects) (script_so_far s)
  pub few_lines_in_all : sum_by lines_written s.scripts + lines_written (script_so_far s) ≤ (limits_of s.version).lines_in_all
  pub few_calls_in_all : sum_by calls_made s.scripts + calls_made (script_so_far s) ≤ (limits_of s.version).calls_in_all
