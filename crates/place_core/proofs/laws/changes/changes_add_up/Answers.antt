use Rattle.place_core.specs.declared.entry.Entry.{Entry}
use Rattle.place_core.specs.Shapes.{word_of}
use Rattle.place_core.proofs.ChangeCounts.{changes_append}
use Rattle.place_core.proofs.laws.changes.changes_add_up.Goals as goal

pub returns : goal.returns
returns c = λ S w c. changes_append (λ (y : Entry). y.caller) (λ H. word_of S H w) c
