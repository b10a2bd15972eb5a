use Rattle.seat_views.specs.Trials.{IsReady}
use Rattle.update_table.proofs.Trying.{Trying}
use Rattle.update_table.proofs.update.fetch_update_by.Given as goal

abbrev pub invariant-loop : goal.invariant-loop
invariant-loop g l =
    (goal.iterator-loop g).can_next l.iterator' × (goal.iterator-loop g).is_finite l.iterator' × IsReady l.arena l.pass
    × Trying l.arena.shape l.fn.served.object (g.U.Rule.low l.rule) (g.U.Rule.high l.rule) (g.U.Rule.leads l.rule) l.fn.pass l.found l.pass
