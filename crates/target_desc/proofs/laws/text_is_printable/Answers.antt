use Rattle.target_desc.proofs.Printed.{text_is_printable}
use Rattle.target_desc.proofs.laws.text_is_printable.Goals as goal

pub returns : goal.returns
returns c = text_is_printable
