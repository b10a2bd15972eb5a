use Rattle.place_core.specs.declared.entry.Entry.{Entry}
use Rattle.place_core.proofs.EntryLists.{CallersWithin-weaken}
use Rattle.place_core.proofs.laws.callers_within_more.Goals as goal

pub returns : goal.returns
returns c = λ H n m. CallersWithin-weaken (λ (x : Entry). x.caller) n m H
