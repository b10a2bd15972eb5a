-- What running a workload comes to.
use Rattle.std.specs.Prelude.{◌≡◌, ℕ, Bool, List, None, IsSomeAnd}
use Rattle.std.specs.declared.option.Option.{Option}
use Rattle.layout_plan.specs.Layout.{shape_of}
use Rattle.work_lang.specs.Workload.{Workload, threads_of}
use Rattle.place_core.specs.declared.entry.Entry.{Entry}
use Rattle.place_core.specs.Runs.{replies_by}
use Rattle.report_text.specs.Report.{report_lines}
use Rattle.report_text.specs.Many.{many_with}
use Rattle.whole_run.specs.WholeRuns.{RanWhole}
use Rattle.top_call.specs.declared.run_text.RunText.{RunText}
use Rattle.top_call.specs.declared.run_text.RunText.TheVariants as texts
use Rattle.top_call.specs.declared.outcome.Ended.{Ended}
use Rattle.top_call.specs.declared.status.Status.{Status}
use Rattle.top_call.specs.declared.status.Status.TheVariants.{Done, Refused, Usage, ReadFault, WriteFault, NoMemory}
use Rattle.top_call.specs.Writing.{Took, TookFront}

-- the workload was run on the arena of its layout, whose one history the root has seen
abbrev pub IsRunOf : Workload → Ended → Type 0
IsRunOf w e = (e.work ≡ w) × RanWhole (shape_of e.work.target e.work.objects) (threads_of e.work) e.arena e.root

-- the lines that are written of a run
abbrev pub run_lines : RunText → Workload → List Entry → List (List ℕ)
run_lines texts.Report w H = report_lines w H
run_lines (texts.Many seed threads calls) w H = many_with seed threads calls w.objects (replies_by H 0)

-- the workload was run, and its lines written whole, or a prefix of it at a fault; or nothing came of it, out of memory
abbrev pub RunsWork : {K : Type 0} → (K → Option (List ℕ)) → (K → ℕ) → (K → ℕ) → (K → Bool) → K → K → RunText → Workload → Status → Option Ended → Type 0
RunsWork taken faults tries whole old new text w Done ended = IsSomeAnd ended (λ e. IsRunOf w e × Took taken faults tries whole old new (run_lines text e.work e.root.seen))
RunsWork taken faults tries whole old new text w Refused ended = ⊥
RunsWork taken faults tries whole old new text w Usage ended = ⊥
RunsWork taken faults tries whole old new text w ReadFault ended = ⊥
RunsWork taken faults tries whole old new text w WriteFault ended = IsSomeAnd ended (λ e. IsRunOf w e × TookFront taken faults tries whole old new (run_lines text e.work e.root.seen))
RunsWork taken faults tries whole old new text w NoMemory ended = (ended ≡ None) × (new ≡ old)
