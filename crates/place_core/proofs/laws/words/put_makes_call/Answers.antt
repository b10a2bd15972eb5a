use Rattle.place_core.proofs.WordEntries.{put_makes_call}
use Rattle.place_core.proofs.laws.words.put_makes_call.Goals as goal

pub returns : goal.returns
returns c = put_makes_call
