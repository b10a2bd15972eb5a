use Rattle.place_core.specs.Cells.{IsLawful}
use Rattle.place_core.proofs.EntryLists.{Each-prefix}
use Rattle.place_core.proofs.laws.legal_in_front.Goals as goal

pub returns : goal.returns
returns c = λ cells H K. Each-prefix (IsLawful cells) H K
