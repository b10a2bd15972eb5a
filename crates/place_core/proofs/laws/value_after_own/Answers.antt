use Rattle.std.proofs.Common.{refl}
use Rattle.place_core.proofs.CellValues.{value_of-own}
use Rattle.place_core.proofs.laws.value_after_own.Goals as goal

pub returns : goal.returns
returns c = λ cells H x cell at. value_of-own cells H x x.object cell at refl
