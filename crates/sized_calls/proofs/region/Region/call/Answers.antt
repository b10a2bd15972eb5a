use Rattle.std.proofs.Common.{ap, subst}
use Rattle.sized_calls.specs.Regions.{RegionState, IsRegion}
use Rattle.sized_calls.proofs.Opening.{fit_owed}
use Rattle.sized_calls.proofs.region.Region.call.Goals as goal

pub call-requires-2-clause-fits : goal.call-requires-2-clause-fits
call-requires-2-clause-fits g c = fit_owed c.args.self.now (subst IsRegion c.self.view_is c.self.invariant) c.args.call.now c.in_ok-object.object c.call.result c.self.inside.arena.shape (ap (λ (s : RegionState). s.arena.shape) c.self.view_is) c.call.ensures c.in_ok-object.ensures.0 c.in_ok-object.ensures.1
