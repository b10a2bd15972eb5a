use Rattle.place_core.specs.declared.entry.Entry.{Entry}
use Rattle.place_core.specs.Shapes.{word_of}
use Rattle.place_core.proofs.ChangeCounts.{own_change}
use Rattle.place_core.proofs.laws.changes.own_change_counts_not.Goals as goal

pub returns : goal.returns
returns c = λ S w c. own_change (λ (y : Entry). y.caller) (λ H. word_of S H w) c
