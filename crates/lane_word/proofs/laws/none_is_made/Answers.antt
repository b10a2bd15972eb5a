use Rattle.lane_word.proofs.LanePieces.{none_is_made}
use Rattle.lane_word.proofs.laws.none_is_made.Goals as goal

pub returns : goal.returns
returns c = none_is_made
