use Rattle.std.proofs.Common.{◌≡◌, rules, sym, ◌∙◌, subst}
use Rattle.op_table.specs.declared.call.Reply.{Reply}
use Rattle.op_table.specs.Call.{answer_of}
use Rattle.place_core.specs.Shapes.{kind_of}
use Rattle.seq_lock.specs.Once.{MakesLockedOnce}
use Rattle.seq_lock.proofs.LockedCalls.{once_made}
use Rattle.seq_lock.proofs.calls.try_locked.Goals as goal

pub returns-clause-made : goal.returns-clause-made
returns-clause-made g c =
    let kind : kind_of c.args.arena.now.shape c.args.object ≡ c.KIND.result = search rules in
    let told : answer_of (kind_of c.args.arena.now.shape c.args.object) c.args.call.now c.held_call-found.result ≡ c.answer.result = (λ i. answer_of (kind i) c.args.call.now c.held_call-found.result) ∙ sym c.answer.ensures.value in
    subst (λ (r : Reply). MakesLockedOnce c.args.arena.now.shape c.args.object c.args.call.now c.args.pass.now r c.held_call-found.new.pass) told
    (once_made _ _ _ _ _ _ _ _ c.if-not-try_take.ensures c.held_call-found.ensures.made)
