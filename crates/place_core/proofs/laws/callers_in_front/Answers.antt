use Rattle.place_core.specs.declared.entry.Entry.{Entry}
use Rattle.place_core.proofs.EntryLists.{CallersWithin-prefix}
use Rattle.place_core.proofs.laws.callers_in_front.Goals as goal

pub returns : goal.returns
returns c = λ H K n. CallersWithin-prefix (λ (x : Entry). x.caller) n H K
