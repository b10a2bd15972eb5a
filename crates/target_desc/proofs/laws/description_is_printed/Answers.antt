use Rattle.target_desc.proofs.Printed.{description_is_printed}
use Rattle.target_desc.proofs.laws.description_is_printed.Goals as goal

pub returns : goal.returns
returns c = description_is_printed
