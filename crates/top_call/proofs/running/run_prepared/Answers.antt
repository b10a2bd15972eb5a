use Rattle.std.proofs.Common.{refl}
use Rattle.work_lang.specs.Workload.{threads_of}
use Rattle.work_lang.proofs.CanonicalSteps.{threads_fit}
use Rattle.top_call.specs.Preparing.{work_in}
use Rattle.top_call.proofs.Answering.{laid_fit}
use Rattle.top_call.proofs.running.run_prepared.Goals as goal

pub run-ran-requires-clause-fits : goal.run-ran-requires-clause-fits
run-ran-requires-clause-fits g c κs within = laid_fit (work_in c.args.prepared) c.args.prepared.ready.arena.shape _ c.requires.shape refl (threads_fit (work_in c.args.prepared) c.requires.kept)
