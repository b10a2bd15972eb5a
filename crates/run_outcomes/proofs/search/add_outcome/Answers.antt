-- The outcome at the state is added.
use Rattle.std.proofs.Common.{map}
use Rattle.place_core.specs.Pieces.{script_lines}
use Rattle.run_outcomes.proofs.Collecting.{AddsOutcome-one}
use Rattle.run_outcomes.proofs.search.add_outcome.Goals as goal

pub returns-in-Ok-insert-clause-ok : goal.returns-in-Ok-insert-clause-ok
returns-in-Ok-insert-clause-ok c = AddsOutcome-one c.args.shape.now (map script_lines c.args.scripts.now) c.args.state.now c.in-Ok.outcome c.args.found.now c.insert.new.self
    (c.ends_all.ensures.0 c.if-not-ends_all.false) c.in-Ok.ensures c.in-Ok-insert.ensures.updates
