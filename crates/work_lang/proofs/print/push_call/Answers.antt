use Rattle.std.proofs.Common.{◌++◌, ap, ◌∙◌}
use Rattle.work_lang.proofs.CallLines.{item_read, call_line-made}
use Rattle.work_lang.proofs.print.push_call.Goals as goal

pub returns-clause-value : goal.returns-clause-value
returns-clause-value c =
    call_line-made c.args.objects.now c.args.line.now c.index-objects-line.result c.args.out.now c.push_text.new.self c.push_word.new.out c.push_operands.new.out _ (item_read _ c.args.objects.now c.args.line.now.object _ c.requires.line c.index-objects-line.is) (c.push_text.ensures ∙ ap (λ x. c.args.out.now ++ x) c.bytes.ensures.value) c.push_word.ensures.value c.push_operands.ensures.value c.push_orders.ensures.value
