use Rattle.place_core.specs.declared.entry.Entry.{Entry}
use Rattle.place_core.proofs.EntryLists.{made_by-other}
use Rattle.place_core.proofs.laws.entries_with_other.Goals as goal

pub returns : goal.returns
returns c = made_by-other (λ (y : Entry). y.caller)
