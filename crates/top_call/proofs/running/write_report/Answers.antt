use Rattle.std.proofs.Common.{length, ap, ◌∙◌, map}
use Rattle.report_text.specs.Report.{items_of}
use Rattle.top_call.proofs.Answering.{threads_answer, last_answers, length-fixed_of}
use Rattle.top_call.proofs.running.write_report.Goals as goal

pub report-requires-clause-threads : goal.report-requires-clause-threads
report-requires-clause-threads g c = threads_answer c.args.ran.now.ended _ c.target-target.ensures.kept c.requires.run (ap (map items_of) c.deref.ensures.value ∙ c.requires.replies)

pub report-requires-clause-last : goal.report-requires-clause-last
report-requires-clause-last g c = last_answers c.args.ran.now.ended _ c.target-target.ensures.kept c.requires.run c.requires.last

pub report-requires-clause-fixed : goal.report-requires-clause-fixed
report-requires-clause-fixed g c = ap length c.requires.fixed ∙ length-fixed_of c.args.ran.now.ended.work
