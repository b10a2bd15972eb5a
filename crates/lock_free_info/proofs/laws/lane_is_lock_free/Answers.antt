use Rattle.lock_free_info.proofs.PathClasses.{lane_is_lock_free}
use Rattle.lock_free_info.proofs.laws.lane_is_lock_free.Goals as goal

pub returns : goal.returns
returns c = lane_is_lock_free
