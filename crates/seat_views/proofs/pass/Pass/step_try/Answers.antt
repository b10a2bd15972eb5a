use Rattle.seat_views.proofs.Landing.{new_fits}
use Rattle.seat_views.proofs.pass.Pass.step_try.Goals as goal

pub put_lane-next-requires-clause-fits : goal.put_lane-next-requires-clause-fits
put_lane-next-requires-clause-fits c = let spot = c.lane_spot-spot.ensures in new_fits c.args.arena.now.shape c.args.object _ _ _ _ spot.place spot.kind c.args.call.now c.args.found _ spot.bits spot.valid c.requires.fits c.requires.new
