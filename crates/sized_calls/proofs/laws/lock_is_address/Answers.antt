use Rattle.sized_calls.proofs.CellPlaces.{lock_is_address}
use Rattle.sized_calls.proofs.laws.lock_is_address.Goals as goal

pub returns : goal.returns
returns c = lock_is_address
