use Rattle.std.proofs.Common.{ℕ}
use Rattle.atomic_types.proofs.Replies.{made_form}
use Rattle.wait_cell.proofs.Replies.{ready_after}
use Rattle.wait_cell.proofs.calls.answer.Goals as goal

pub returns-clause-form : goal.returns-clause-form
returns-clause-form g c =
    made_form c.args.arena.now.shape c.shape-shape.ensures.valid c.args.served.object c.requires.object c.args.call.now c.args.pass.now c.call.result c.call.new.pass c.requires.ready.of.1 c.call.ensures.made

pub returns-clause-ready : goal.returns-clause-ready
returns-clause-ready g c = ready_after _ _ _ _ _ _ _ c.requires.ready c.call.ensures.made
