use Rattle.std.proofs.Common.{ℕ, subst}
use Rattle.op_table.specs.declared.kind.Kind.{Kind}
use Rattle.seat_views.specs.Makes.{MakesCall}
use Rattle.atomic_types.specs.Atomics.{HasForm, form_of}
use Rattle.atomic_types.proofs.Replies.{made_form}
use Rattle.atomic_types.proofs.atomic.Atomic.reply.Goals as goal

pub returns-clause-form : goal.returns-clause-form
returns-clause-form g c =
    let made : MakesCall c.args.arena.now.shape c.args.self.now c.args.call.now c.args.pass.now c.call_as.result c.call_as.new.pass =
    subst (λ (o : ℕ). MakesCall c.args.arena.now.shape o c.args.call.now c.args.pass.now c.call_as.result c.call_as.new.pass) c.self.view_is c.call_as.ensures.made in
    subst (λ (k : Kind). HasForm (form_of c.args.call.now) k c.call_as.result) c.requires.atomic.1
    (made_form c.args.arena.now.shape c.shape-shape.ensures.valid c.args.self.now c.requires.atomic.0 c.args.call.now c.args.pass.now c.call_as.result c.call_as.new.pass c.requires.arena.1 made)
