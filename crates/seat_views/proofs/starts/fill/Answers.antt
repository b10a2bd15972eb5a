use Rattle.std.proofs.Common.{arith}
use Rattle.seat_views.proofs.Openings.{starts_none, starts_begin}
use Rattle.seat_views.proofs.starts.fill.Goals as goal

pub put_starts-requires-clause-so_far : goal.put_starts-requires-clause-so_far
put_starts-requires-clause-so_far c = starts_none _ _ c.requires.words c.requires.zero

pub returns-clause-begins : goal.returns-clause-begins
returns-clause-begins c = starts_begin _ _ _ _ _ (omega arith) c.requires.shape c.put_starts.ensures c.put_stamps.ensures
