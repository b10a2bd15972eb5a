use Rattle.std.proofs.Common.{rules}
use Rattle.any_size.proofs.Openings.{spots_more}
use Rattle.any_size.proofs.starts.add_spot.Goals as goal

pub returns : goal.returns
returns c = spots_more _ _ _ _ _ _ c.requires.so_far c.requires.spot (search rules)
