use Rattle.std.specs.List.{All}
use Rattle.seat_views.specs.Trials.{IsReady, IsReadyRoot}
use Rattle.wait_cell.proofs.trials.give_many.Given as goal

abbrev pub invariant-loop : goal.invariant-loop
invariant-loop l = IsReadyRoot l.arena l.root × All (λ p. IsReady l.arena p) l.passes.items
