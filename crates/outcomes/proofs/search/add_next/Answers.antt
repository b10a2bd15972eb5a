-- One more choice: what it added comes to what the choices before added.
use Rattle.std.proofs.Common.{arith}
use Rattle.outcomes.proofs.search.add_next.Goals as goal
use Rattle.outcomes.proofs.SearchLemmas.{Adds-none, Adds-more, KeepsAll-none, KeepsAll-more, Adds-stopped, IsOver-stopped}

pub loop-choice-init : goal.loop-choice-init
loop-choice-init g c = record {
  adds = Adds-none g.M.State.Ord.cmp (g.M.Stepping.after c.args.machine.now) c.args.state.now c.args.done.now c.args.left.now;
  within = omega arith;
  all = KeepsAll-none g.M.State.Ord.cmp (g.M.Stepping.after c.args.machine.now) c.args.state.now c.args.done.now c.args.left.now;
}

pub loop-choice-preserved : goal.loop-choice-preserved
loop-choice-preserved g c = record {
  adds = Adds-more g.M.State.Ord.cmp (g.M.Stepping.after c.args.machine.now) c.args.state.now c.args.done.now c.loop-choice.choice c.args.left.now c.loop-choice.left c.add_choice.new.left
      c.loop-choice.invariant.adds c.in-Ok.ensures.adds;
  within = c.in-Ok.ensures.within;
  all = KeepsAll-more g.M.State.Ord.cmp (g.M.Stepping.after c.args.machine.now) c.args.state.now c.args.done.now c.loop-choice.choice c.loop-choice.left c.add_choice.new.left
      c.loop-choice.invariant.all c.in-Ok.ensures.adds;
}

pub returns-in-Err-clause-adds : goal.returns-in-Err-clause-adds
returns-in-Err-clause-adds g c = Adds-stopped g.M.State.Ord.cmp (g.M.Stepping.after c.args.machine.now) c.args.state.now c.args.done.now c.loop-choice.choice (g.M.Stepping.choices c.args.machine.now)
    c.args.left.now c.loop-choice.left c.add_choice.new.left (omega arith) c.loop-choice.invariant.adds c.in-Err.ensures.err

pub returns-in-Err-clause-over : goal.returns-in-Err-clause-over
returns-in-Err-clause-over g c = λ many. (
  c.loop-choice.choice,
  omega arith,
  IsOver-stopped g.M.State.Ord.cmp (g.M.Stepping.after c.args.machine.now) c.args.state.now c.args.done.now c.loop-choice.choice c.args.limit c.loop-choice.left c.add_choice.new.left
      c.in-Err.ensures.err (c.in-Err.ensures.over many),
)
