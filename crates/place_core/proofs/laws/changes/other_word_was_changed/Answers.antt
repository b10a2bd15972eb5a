use Rattle.place_core.specs.declared.entry.Entry.{Entry}
use Rattle.place_core.specs.Shapes.{word_of}
use Rattle.place_core.proofs.ChangeCounts.{changes_some}
use Rattle.place_core.proofs.laws.changes.other_word_was_changed.Goals as goal

pub returns : goal.returns
returns c = λ S w c. changes_some (λ (y : Entry). y.caller) (λ H. word_of S H w) c
