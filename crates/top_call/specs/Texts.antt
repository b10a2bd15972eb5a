-- What each command writes.
use Rattle.std.specs.Prelude.{◌≡◌, ℕ, List, [], ◌++◌, ◌∷◌, map, Option, Some, None}
use Rattle.target_desc.specs.declared.target.Target.{Target}
use Rattle.target_desc.specs.Target.{builtins}
use Rattle.target_desc.specs.Spelling.{IsName}
use Rattle.target_desc.specs.Text.{description_text}
use Rattle.work_lang.specs.Workload.{Workload}
use Rattle.work_lang.specs.Canonical.{canonical_lines}
use Rattle.work_lang.specs.Second.{IsSecond}
use Rattle.lock_free_info.specs.PlanTable.{plan_lines}
use Rattle.top_call.specs.declared.command.Command.{Command}
use Rattle.top_call.specs.declared.command.Command.TheVariants.{Run, Check, Convert, Plan, Targets, Many}

-- the workload on the target that is asked for, if one is
abbrev pub on_target : Option Target → Workload → Workload
on_target None w = w
on_target (Some t) w = record w { target = t }

-- a row of the table of built-in targets
abbrev pub IsRow : List ℕ × Target → Type 0
IsRow row = IsName row.0 row.1

-- the line of a built-in target: its name and its description
abbrev pub target_row : List ℕ × Target → List ℕ
target_row row = row.0 ++ 32 ∷ (description_text row.1 ++ 10 ∷ [])

-- the built-in targets
unfoldable pub targets_lines : List (List ℕ)
targets_lines = map target_row builtins

-- the workload that a command describes, of the one that was read: itself, its second form, or itself on the target that
-- is asked for
abbrev pub IsTold : Command → Workload → Workload → Type 0
IsTold (Run t) w told = ⊥
IsTold Check w told = told ≡ w
IsTold Convert w told = IsSecond w told
IsTold (Plan t) w told = told ≡ on_target t w
IsTold Targets w told = ⊥
IsTold (Many seed threads calls) w told = ⊥

-- the lines by which a command describes a workload; none where it runs one, or reads none
abbrev pub description_of : Command → Workload → List (List ℕ)
description_of (Run t) w = []
description_of Check w = canonical_lines w
description_of Convert w = canonical_lines w
description_of (Plan t) w = plan_lines w.target w.objects
description_of Targets w = []
description_of (Many seed threads calls) w = []
