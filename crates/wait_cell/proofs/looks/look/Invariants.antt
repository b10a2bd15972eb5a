use Rattle.std.proofs.Common.{◌≤◌}
use Rattle.seat_views.specs.Trials.{IsReady}
use Rattle.wait_cell.proofs.Waiting.{LooksSoFar}
use Rattle.wait_cell.proofs.looks.look.Given as goal

-- so many looks were made, and each found the number that is expected
abbrev pub invariant-loop-turn : goal.invariant-loop-turn
invariant-loop-turn l = IsReady l.arena l.pass × LooksSoFar l.arena.shape l.served.object l.expected l._turn l.fn.pass l.pass
