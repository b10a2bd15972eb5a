use Rattle.atomic_types.proofs.ServedCalls.{lane_not_wide}
use Rattle.atomic_types.proofs.kinds.fits_in_word.Goals as goal

pub returns : goal.returns
returns c = lane_not_wide _ c.shape-shape.ensures.valid _ c.requires
