use Rattle.place_core.proofs.WordEntries.{won_try_makes_call}
use Rattle.place_core.proofs.laws.words.won_try_makes_call.Goals as goal

pub returns : goal.returns
returns c = won_try_makes_call
