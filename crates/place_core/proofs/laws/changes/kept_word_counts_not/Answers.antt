use Rattle.place_core.proofs.Earning.{kept_word_counts_not}
use Rattle.place_core.proofs.laws.changes.kept_word_counts_not.Goals as goal

pub returns : goal.returns
returns c = kept_word_counts_not
