use Rattle.place_core.specs.declared.entry.Entry.{Entry}
use Rattle.place_core.proofs.EntryLists.{CallersWithin-none}
use Rattle.place_core.proofs.laws.callers_of_none.Goals as goal

pub returns : goal.returns
returns c = CallersWithin-none (λ (x : Entry). x.caller)
