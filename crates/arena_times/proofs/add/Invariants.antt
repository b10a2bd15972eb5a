use Rattle.std.specs.Prelude.{◌≡◌}
use Rattle.seat_views.specs.declared.view.Flight.TheVariants.{Idle}
use Rattle.seat_views.specs.States.{IsOf}
use Rattle.arena_times.proofs.add.Given as goal

abbrev pub invariant-loop : goal.invariant-loop
invariant-loop l = IsOf l.arena l.pass × (l.pass.flight ≡ Idle)
