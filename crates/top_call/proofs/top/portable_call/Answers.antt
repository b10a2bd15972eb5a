use Rattle.std.proofs.Common.{◌≡◌, ◌∙◌, ap, sym, subst}
use Rattle.std.specs.Prelude.{Option, Some}
use Rattle.top_call.specs.declared.command.Command.{Command}
use Rattle.top_call.specs.declared.command.Command.TheVariants.{Many}
use Rattle.top_call.specs.Commands.{command_of, IsAsked}
use Rattle.top_call.specs.Outside.{outside}
use Rattle.top_call.specs.Status.{Says}
use Rattle.top_call.proofs.Serving.{runs_many, loses_nothing}
use Rattle.top_call.proofs.top.portable_call.Goals as goal

pub returns-in-Ok-Many-clause-says : goal.returns-in-Ok-Many-clause-says
returns-in-Ok-Many-clause-says g c =
    let asked : command_of c.args.words.now ≡ Some (Many c.in-Ok-Many.seed c.in-Ok-Many.threads c.in-Ok-Many.calls) = c.in-Ok-Many.ensures.value ∙ ap Some c.in-Ok-Many.field-0-is in
    subst (λ (a : Option Command). Says a (outside g.S.Source.left g.S.Source.faults g.S.Source.meter g.K.Sink.taken g.K.Sink.faults g.K.Sink.tries g.K.Sink.whole c.args.source.now c.args.sink.now)
    (outside g.S.Source.left g.S.Source.faults g.S.Source.meter g.K.Sink.taken g.K.Sink.faults g.K.Sink.tries g.K.Sink.whole c.args.source.now c.run_many.new.sink) c.run_many.result.status c.run_many.result.ended) (sym asked)
    (runs_many g.S.Source.left g.S.Source.faults g.S.Source.meter g.K.Sink.taken g.K.Sink.faults g.K.Sink.tries g.K.Sink.whole c.args.source.now c.args.source.now c.args.sink.now c.run_many.new.sink
    c.in-Ok-Many.seed c.in-Ok-Many.threads c.in-Ok-Many.calls c.run_many.result.status c.run_many.result.ended (subst IsAsked c.in-Ok-Many.field-0-is c.in-Ok-Many.ensures.asked) c.run_many.ensures.ran)

pub returns-in-Ok-Many-clause-front : goal.returns-in-Ok-Many-clause-front
returns-in-Ok-Many-clause-front g c = loses_nothing g.S.Source.left c.args.source.now
