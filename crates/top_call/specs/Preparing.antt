-- A workload that is ready to be run.
use Rattle.std.specs.Prelude.{◌≡◌, Some}
use Rattle.layout_plan.specs.Layout.{shape_of}
use Rattle.work_lang.specs.Workload.{Workload, IsWork}
use Rattle.report_text.specs.Report.{fixed_of}
use Rattle.runner.specs.declared.worker.Keep.{Keep}
use Rattle.runner.specs.declared.worker.Keep.TheVariants as keeps
use Rattle.whole_run.specs.Ready.{shape_in, scripts_in, keep_in, IsReadyRun}
use Rattle.top_call.specs.declared.prepared.Prepared.{Prepared}
use Rattle.top_call.specs.declared.run_text.RunText.{RunText}
use Rattle.top_call.specs.declared.run_text.RunText.TheVariants as texts

-- what is kept of the calls, which only a report tells
abbrev pub kept_of : RunText → Keep
kept_of texts.Report = keeps.Replies
kept_of (texts.Many seed threads calls) = keeps.Nothing

-- the workload that is to be run
abbrev pub work_in : Prepared → Workload
work_in p = record { version = p.version; target = p.target; objects = p.objects.items; scripts = scripts_in p.ready }

-- all that its run needs is there, and its fixed values where its text tells them
pub record IsPrepared (text : RunText) (p : Prepared) : Type 0 where
  pub ready : IsReadyRun p.ready
  pub shape : shape_in p.ready ≡ shape_of p.target p.objects.items
  pub keep : keep_in p.ready ≡ kept_of text
  pub kept : IsWork (work_in p)
  pub fixed : text ≡ texts.Report → p.fixed ≡ Some (fixed_of (work_in p))
