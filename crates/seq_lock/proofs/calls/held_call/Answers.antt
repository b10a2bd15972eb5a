use Rattle.std.proofs.Common.{◌≡◌, ap, sym, ◌∙◌}
use Rattle.op_table.specs.declared.call.Reply.{Reply}
use Rattle.op_table.specs.Call.{answer_of}
use Rattle.op_table.specs.CallTests.{does_write}
use Rattle.place_core.specs.Shapes.{kind_of}
use Rattle.seq_lock.proofs.LockedCalls.{may_leave, left_made, put_made}
use Rattle.seq_lock.proofs.calls.held_call.Goals as goal

pub returns-then-does_write-clause-made : goal.returns-then-does_write-clause-made
returns-then-does_write-clause-made g c =
    let replied : c.apply-next.result.1 ≡ answer_of (kind_of c.args.arena.now.shape c.args.object) c.args.call.now c.held_value-value.result = c.apply-next.ensures.reply ∙ (λ i. answer_of (c.requires.kind i) c.args.call.now (c.from_bits.ensures.back i)) in
    put_made _ _ _ _ _ _ c.requires.hold c.held_value-value.ensures _ _ c.put_value.ensures _ _ (ap (λ (r : Reply). does_write c.args.call.now r) (sym replied) ∙ (sym c.does_write.ensures ∙ c.if-does_write.true)) c.release.ensures

pub release_same-requires-clause-hold : goal.release_same-requires-clause-hold
release_same-requires-clause-hold g c =
    let replied : c.apply-next.result.1 ≡ answer_of (kind_of c.args.arena.now.shape c.args.object) c.args.call.now c.held_value-value.result = c.apply-next.ensures.reply ∙ (λ i. answer_of (c.requires.kind i) c.args.call.now (c.from_bits.ensures.back i)) in
    may_leave _ _ _ _ _ _ c.requires.hold c.held_value-value.ensures (ap (λ (r : Reply). does_write c.args.call.now r) (sym replied) ∙ (sym c.does_write.ensures ∙ c.if-does_write.false))

pub returns-clause-made : goal.returns-clause-made
returns-clause-made g c =
    let replied : c.apply-next.result.1 ≡ answer_of (kind_of c.args.arena.now.shape c.args.object) c.args.call.now c.held_value-value.result = c.apply-next.ensures.reply ∙ (λ i. answer_of (c.requires.kind i) c.args.call.now (c.from_bits.ensures.back i)) in
    left_made _ _ _ _ _ _ c.requires.hold c.held_value-value.ensures _ _ (ap (λ (r : Reply). does_write c.args.call.now r) (sym replied) ∙ (sym c.does_write.ensures ∙ c.if-does_write.false)) c.release_same.ensures
