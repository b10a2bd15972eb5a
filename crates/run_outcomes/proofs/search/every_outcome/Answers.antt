-- One state less is left, and its outcome was added.
use Rattle.std.proofs.Common.{map, arith, ◌∙◌}
use Rattle.place_core.specs.Pieces.{script_lines}
use Rattle.run_outcomes.specs.Outcomes.{longest}
use Rattle.run_outcomes.proofs.Collecting.{IsCollecting-begins, IsCollecting-more, HasEveryOutcome-ends, empty_where_none, moved, length_there}
use Rattle.run_outcomes.proofs.search.every_outcome.Goals as goal

pub states-init : goal.states-init
states-init c = IsCollecting-begins c.args.shape.now (map script_lines c.args.scripts.now) c.args.limit c.in-Ok.states c.new-found.result
    (moved c.new-machine.result.shape.now c.args.shape.now c.new-machine.result.scripts.now c.args.scripts.now c.new-machine.result.kept (longest (map script_lines c.args.scripts.now)) c.args.limit c.in-Ok.states
    c.new-machine.ensures.shape c.new-machine.ensures.scripts (c.new-machine.ensures.kept ∙ c.longest-most.ensures) c.in-Ok.ensures.ok)
    c.new-found.ensures.empty

pub add_outcome-requires-clause-cells : goal.add_outcome-requires-clause-cells
add_outcome-requires-clause-cells c = length_there c.args.shape.now (map script_lines c.args.scripts.now) (longest (map script_lines c.args.scripts.now)) c.in-Some.state
    (c.states.invariant.states c.in-Some.state c.in-Some.ensures.member)

pub states-smaller : goal.states-smaller
states-smaller c = omega (arith, c.in-Some.ensures.len)

pub states-preserved : goal.states-preserved
states-preserved c = IsCollecting-more c.args.shape.now (map script_lines c.args.scripts.now) c.states.states c.pop_first.new.self c.states.found c.add_outcome.new.found c.in-Some.state
    c.states.invariant c.in-Some.ensures.member c.in-Some.ensures.updates c.in-Ok-add_outcome.ensures.ok

pub returns-clause-ok : goal.returns-clause-ok
returns-clause-ok c = HasEveryOutcome-ends c.args.shape.now (map script_lines c.args.scripts.now) c.states.states c.states.found c.states.invariant
    (empty_where_none c.states.states c.in_default.ensures.variant.1)

pub returns-clause-within : goal.returns-clause-within
returns-clause-within c = (
  c.in-Ok.states,
  moved c.new-machine.result.shape.now c.args.shape.now c.new-machine.result.scripts.now c.args.scripts.now c.new-machine.result.kept (longest (map script_lines c.args.scripts.now)) c.args.limit c.in-Ok.states
      c.new-machine.ensures.shape c.new-machine.ensures.scripts (c.new-machine.ensures.kept ∙ c.longest-most.ensures) c.in-Ok.ensures.ok,
)
