use Rattle.std.proofs.Common.{sym, ◌∙◌, subst}
use Rattle.op_table.specs.declared.call.Reply.{Reply}
use Rattle.op_table.specs.declared.call.Reply.TheVariants as reply
use Rattle.seat_views.specs.Makes.{MakesCall}
use Rattle.atomic_types.proofs.Replies.{made_after}
use Rattle.atomic_types.proofs.atomic.Atomic.after.Goals as goal

-- the value after the call's entry, which is the last that was seen
pub returns-clause-left : goal.returns-clause-left
returns-clause-left g c =
    let made : MakesCall c.args.arena.now.shape c.args.self.now c.args.call.now c.args.pass.now (reply.Value c.in-Value.bits) c.reply.new.pass =
    subst (λ (r : Reply). MakesCall c.args.arena.now.shape c.args.self.now c.args.call.now c.args.pass.now r c.reply.new.pass) c.in-Value.is c.reply.ensures.serves.made in
    made_after c.args.arena.now.shape c.args.self.now c.requires.atomic.0 c.args.call.now c.args.pass.now c.in-Value.bits c.reply.new.pass c.requires.arena.1 c.requires.form made ∙ sym c.from_bits.ensures.back
