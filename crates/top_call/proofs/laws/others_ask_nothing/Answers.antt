use Rattle.top_call.proofs.FormFacts.{others}
use Rattle.top_call.proofs.laws.others_ask_nothing.Goals as goal

pub returns : goal.returns
returns c = others
