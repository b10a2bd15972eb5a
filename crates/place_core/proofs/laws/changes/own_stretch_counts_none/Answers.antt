use Rattle.place_core.specs.declared.entry.Entry.{Entry}
use Rattle.place_core.specs.Shapes.{word_of}
use Rattle.place_core.proofs.ChangeCounts.{own_stretch}
use Rattle.place_core.proofs.laws.changes.own_stretch_counts_none.Goals as goal

pub returns : goal.returns
returns c = λ S w c. own_stretch (λ (y : Entry). y.caller) (λ H. word_of S H w) c
