use Rattle.target_desc.proofs.Printed.{words_are_plain}
use Rattle.target_desc.proofs.laws.words_are_plain.Goals as goal

pub returns : goal.returns
returns c = words_are_plain
