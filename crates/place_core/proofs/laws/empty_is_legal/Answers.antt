use Rattle.place_core.specs.Cells.{IsLawful}
use Rattle.place_core.proofs.EntryLists.{Each-none}
use Rattle.place_core.proofs.laws.empty_is_legal.Goals as goal

pub returns : goal.returns
returns c = λ cells. Each-none (IsLawful cells)
