use Rattle.std.proofs.Common.{◌<◌, ◌^◌}
use Rattle.seat_views.specs.Trials.{IsReady}
use Rattle.wait_cell.proofs.Taking.{TriesSoFar}
use Rattle.wait_cell.proofs.takes.take_one.Given as goal

-- tries were made, and the number replied last is the one at hand
abbrev pub invariant-loop : goal.invariant-loop
invariant-loop g l =
    (goal.iterator-loop g).can_next l.iterator' × (goal.iterator-loop g).is_finite l.iterator' × IsReady l.arena l.pass × (l.number < 2 ^ 32) × TriesSoFar l.arena.shape l.served.object l.fn.pass l.number l.pass
