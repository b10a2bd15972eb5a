use Rattle.lock_free_info.proofs.PathClasses.{locked_is_not_lock_free}
use Rattle.lock_free_info.proofs.laws.locked_is_not_lock_free.Goals as goal

pub returns : goal.returns
returns c = locked_is_not_lock_free
