use Rattle.place_core.specs.declared.entry.Entry.{Entry}
use Rattle.place_core.specs.Shapes.{word_of}
use Rattle.place_core.proofs.ChangeCounts.{lost_counts}
use Rattle.place_core.proofs.laws.changes.lost_try_is_paid.Goals as goal

pub returns : goal.returns
returns c = λ S w c. lost_counts (λ (y : Entry). y.caller) (λ H. word_of S H w) c
