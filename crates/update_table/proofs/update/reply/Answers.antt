use Rattle.atomic_types.proofs.Replies.{made_form}
use Rattle.update_table.proofs.update.reply.Goals as goal

pub returns-clause-form : goal.returns-clause-form
returns-clause-form g c =
    made_form c.args.arena.now.shape c.shape-shape.ensures.valid c.args.served.object c.requires.object c.args.call.now c.args.pass.now c.call.result c.call.new.pass c.requires.ready.of.1 c.call.ensures.made
