use Rattle.place_core.specs.declared.entry.Entry.{Entry}
use Rattle.place_core.proofs.EntryLists.{made_by-prefix}
use Rattle.place_core.proofs.laws.entries_in_front.Goals as goal

pub returns : goal.returns
returns c = made_by-prefix (λ (x : Entry). x.caller)
