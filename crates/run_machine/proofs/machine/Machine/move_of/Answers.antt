-- The line is one of the scripts', so its object has a value of its kind.
use Rattle.std.proofs.Common.{map, sym, ◌/◌}
use Rattle.place_core.specs.Pieces.{script_lines}
use Rattle.run_steps.proofs.MachineFacts.{value_small_mapped, line_within}
use Rattle.run_machine.proofs.machine.Machine.move_of.Goals as goal

pub move_by-requires-clause-value : goal.move_by-requires-clause-value
move_by-requires-clause-value c = value_small_mapped c.args.self.now.shape.now c.args.self.now.scripts.now c.args.self.now.kept c.args.state.now c.requires.at c.in-Some.line.now.object
    (line_within c.args.self.now.shape.now (map script_lines c.args.self.now.scripts.now) c.args.self.now.kept c.requires.at.fits (c.args.choice / 2) c.at-place.result c.in-Some.line.now (sym c.in-Some.ensures.line))
