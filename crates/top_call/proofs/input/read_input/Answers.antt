use Rattle.std.proofs.Common.{subst}
use Rattle.top_call.specs.Inputs.{ReadsText}
use Rattle.top_call.proofs.Serving.{reads_input}
use Rattle.top_call.proofs.input.read_input.Goals as goal

pub returns-clause-read : goal.returns-clause-read
returns-clause-read g c =
    reads_input g.S.Source.left g.S.Source.faults c.args.source.now c.read_all.new.source c.in-Ok.text.items c.work_of.result
    c.in-Ok.ensures.bytes (c.in-Ok.ensures.same (λ e. cc)) (subst (λ text. ReadsText text c.work_of.result) c.deref.ensures.value c.work_of.ensures.text)
