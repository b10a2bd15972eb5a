use Rattle.std.proofs.Common.{◌≡◌, rules, sym, ◌∙◌, subst}
use Rattle.op_table.specs.declared.call.Reply.{Reply}
use Rattle.op_table.specs.Call.{answer_of}
use Rattle.place_core.specs.Shapes.{kind_of}
use Rattle.seq_lock.specs.Holds.{MakesLocked}
use Rattle.seq_lock.proofs.calls.locked.Goals as goal

pub returns : goal.returns
returns g c =
    let kind : kind_of c.args.arena.now.shape c.args.object ≡ c.KIND.result = search rules in
    let told : answer_of (kind_of c.args.arena.now.shape c.args.object) c.args.call.now c.found_locked-found.result ≡ c.answer.result = (λ i. answer_of (kind i) c.args.call.now c.found_locked-found.result) ∙ sym c.answer.ensures.value in
    subst (λ (r : Reply). MakesLocked c.args.arena.now.shape c.args.object c.args.call.now c.args.pass.now r c.found_locked-found.new.pass) told c.found_locked-found.ensures.made
