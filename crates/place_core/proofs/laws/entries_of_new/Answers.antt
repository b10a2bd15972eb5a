use Rattle.place_core.specs.declared.entry.Entry.{Entry}
use Rattle.place_core.proofs.EntryLists.{made_by-new}
use Rattle.place_core.proofs.laws.entries_of_new.Goals as goal

pub returns : goal.returns
returns c = λ H n c. made_by-new (λ (x : Entry). x.caller) n c H
