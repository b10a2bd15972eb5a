use Rattle.work_lang.proofs.FaultLines.{fault_is_of_its_lines}
use Rattle.work_lang.proofs.laws.fault_is_of_its_lines.Goals as goal

pub returns : goal.returns
returns c = fault_is_of_its_lines
