use Rattle.place_core.proofs.Earning.{two_words_earn}
use Rattle.place_core.proofs.laws.changes.two_words_earn.Goals as goal

pub returns : goal.returns
returns c = two_words_earn
