use Rattle.std.proofs.Common.{ℕ}
use Rattle.atomic_types.proofs.Replies.{made_form}
use Rattle.wait_cell.proofs.Replies.{ready_after}
use Rattle.wait_cell.proofs.looks.reply_now.Goals as goal

pub returns-clause-form : goal.returns-clause-form
returns-clause-form c =
    made_form c.args.arena.now.shape c.shape-shape.ensures.valid c.args.served.object c.requires.object _ c.args.pass.now _ c.now.new.pass c.requires.ready.of.1 c.in-Some.ensures.1.made

pub returns-clause-ready : goal.returns-clause-ready
returns-clause-ready c = ready_after _ _ _ _ _ _ _ c.requires.ready c.in-Some.ensures.1.made
