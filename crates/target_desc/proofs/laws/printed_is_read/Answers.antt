use Rattle.target_desc.proofs.Printed.{printed_is_read}
use Rattle.target_desc.proofs.laws.printed_is_read.Goals as goal

pub returns : goal.returns
returns c = printed_is_read
