use Rattle.place_core.proofs.WordEntries.{entry_replaces_bits}
use Rattle.place_core.proofs.laws.words.entry_replaces_bits.Goals as goal

pub returns : goal.returns
returns c = entry_replaces_bits
