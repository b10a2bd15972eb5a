use Rattle.place_core.specs.declared.entry.Entry.{Entry}
use Rattle.place_core.proofs.EntryLists.{made_by-none}
use Rattle.place_core.proofs.laws.entries_of_none.Goals as goal

pub returns : goal.returns
returns c = made_by-none (λ (x : Entry). x.caller)
