use Rattle.place_core.specs.declared.entry.Entry.{Entry}
use Rattle.place_core.proofs.EntryLists.{made_by-own}
use Rattle.place_core.proofs.laws.entries_with_own.Goals as goal

pub returns : goal.returns
returns c = made_by-own (λ (y : Entry). y.caller)
