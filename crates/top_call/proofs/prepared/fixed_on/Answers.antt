use Rattle.std.proofs.Common.{map, ap}
use Rattle.place_core.specs.Pieces.{script_lines}
use Rattle.work_lang.proofs.CanonicalSteps.{threads_fit}
use Rattle.top_call.proofs.Answering.{laid_fit, laid_fixed}
use Rattle.top_call.proofs.prepared.fixed_on.Goals as goal

pub fixed_values-requires-clause-fits : goal.fixed_values-requires-clause-fits
fixed_values-requires-clause-fits c =
    laid_fit c.args.work.now c.args.shape.now _ c.requires.laid (ap (map script_lines) c.threads.ensures.value) (threads_fit c.args.work.now c.target-target.ensures.kept)

-- the fixed values of the shape are those of the workload's objects
pub returns : goal.returns
returns c =
    laid_fixed c.args.work.now c.args.shape.now _ c.in_ok-fixed.fixed
    c.requires.laid (ap (map script_lines) c.threads.ensures.value) c.in_ok-fixed.ensures.values
