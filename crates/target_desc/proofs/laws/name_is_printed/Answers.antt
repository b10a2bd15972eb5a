use Rattle.target_desc.proofs.Printed.{name_is_printed}
use Rattle.target_desc.proofs.laws.name_is_printed.Goals as goal

pub returns : goal.returns
returns c = name_is_printed
