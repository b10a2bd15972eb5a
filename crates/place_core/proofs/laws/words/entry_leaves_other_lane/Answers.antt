use Rattle.place_core.proofs.WordEntries.{entry_leaves_other_lane}
use Rattle.place_core.proofs.laws.words.entry_leaves_other_lane.Goals as goal

pub returns : goal.returns
returns c = entry_leaves_other_lane
