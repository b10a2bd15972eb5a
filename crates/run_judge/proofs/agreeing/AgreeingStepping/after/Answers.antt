-- The state has as many numbers as there are cells.
use Rattle.std.proofs.Common.{map}
use Rattle.place_core.specs.Pieces.{script_lines}
use Rattle.run_steps.proofs.MachineFacts.{length_of}
use Rattle.run_judge.proofs.agreeing.AgreeingStepping.after.Goals as goal

pub move_of-requires-clause-cells : goal.move_of-requires-clause-cells
move_of-requires-clause-cells c = length_of c.args.self.now.machine.shape.now (map script_lines c.args.self.now.machine.scripts.now) c.args.self.now.machine.kept c.args.state.now c.requires.state

pub state_after-requires-clause-cells : goal.state_after-requires-clause-cells
state_after-requires-clause-cells c = length_of c.args.self.now.machine.shape.now (map script_lines c.args.self.now.machine.scripts.now) c.args.self.now.machine.kept c.args.state.now c.requires.state
