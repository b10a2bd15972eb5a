use Rattle.place_core.specs.declared.entry.Entry.{Entry}
use Rattle.place_core.proofs.EntryLists.{CallersWithin-more}
use Rattle.place_core.proofs.laws.callers_with_one_more.Goals as goal

pub returns : goal.returns
returns c = λ H x n. CallersWithin-more (λ (y : Entry). y.caller) n H x
