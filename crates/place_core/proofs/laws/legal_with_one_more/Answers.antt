use Rattle.place_core.specs.Cells.{IsLawful}
use Rattle.place_core.proofs.EntryLists.{Each-more}
use Rattle.place_core.proofs.laws.legal_with_one_more.Goals as goal

pub returns : goal.returns
returns c = λ cells H x. Each-more (IsLawful cells) H x
