use Rattle.std.proofs.Common.{refl, sym, subst}
use Rattle.top_call.specs.declared.command.Command.{Command}
use Rattle.top_call.specs.declared.command.Command.TheVariants.{Check, Plan}
use Rattle.top_call.specs.Writing.{WritesTold}
use Rattle.top_call.proofs.Serving.{tells_work}
use Rattle.top_call.proofs.describing.describe_work.Goals as goal

pub returns-in-Check-clause-wrote : goal.returns-in-Check-clause-wrote
returns-in-Check-clause-wrote g c =
    subst (λ (command : Command). WritesTold g.K.Sink.taken g.K.Sink.faults g.K.Sink.tries g.K.Sink.whole c.args.sink.now c.check_work.new.sink command c.args.work c.check_work.result) (sym c.in-Check.is)
    (tells_work g.K.Sink.taken g.K.Sink.faults g.K.Sink.tries g.K.Sink.whole c.args.sink.now c.check_work.new.sink Check c.args.work c.args.work c.check_work.result refl c.check_work.ensures.wrote)

pub returns-in-Plan-clause-wrote : goal.returns-in-Plan-clause-wrote
returns-in-Plan-clause-wrote g c =
    subst (λ (command : Command). WritesTold g.K.Sink.taken g.K.Sink.faults g.K.Sink.tries g.K.Sink.whole c.args.sink.now c.plan_work-in-Plan.new.sink command c.args.work c.plan_work-in-Plan.result) (sym c.in-Plan.is)
    (tells_work g.K.Sink.taken g.K.Sink.faults g.K.Sink.tries g.K.Sink.whole c.args.sink.now c.plan_work-in-Plan.new.sink (Plan c.in-Plan.target) c.args.work c.on_target.result c.plan_work-in-Plan.result c.on_target.ensures c.plan_work-in-Plan.ensures.wrote)
