use Rattle.std.proofs.Common.{Result, subst}
use Rattle.work_lang.specs.Workload.{Workload}
use Rattle.work_lang.specs.Reading.{Fault, Reads}
use Rattle.work_lang.proofs.Spelled.{is_found, reading_only}
use Rattle.work_lang.proofs.reader.read_work.Goals as goal

pub returns-clause-found : goal.returns-clause-found
returns-clause-found c = is_found c.args.text.now c.read_lines.result c.read_lines.ensures.exact

pub returns-clause-only : goal.returns-clause-only
returns-clause-only c = λ w s. subst (λ (r : Result Workload Fault). Reads c.read_lines.result r) (reading_only c.args.text.now w s) c.read_lines.ensures.exact
