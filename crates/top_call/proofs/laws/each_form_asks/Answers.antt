use Rattle.top_call.proofs.FormFacts.{each_form}
use Rattle.top_call.proofs.laws.each_form_asks.Goals as goal

pub returns : goal.returns
returns c = each_form
