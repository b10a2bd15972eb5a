use Rattle.std.proofs.Common.{sym, subst, ◌∙◌}
use Rattle.work_lang.proofs.FormReads.{OperandsFit, operands_fit}
use Rattle.work_lang.proofs.print.push_operands.Goals as goal

pub push_operand-requires-clause-value : goal.push_operand-requires-clause-value
push_operand-requires-clause-value c = subst (OperandsFit c.args.kind) (sym c.operands_in.ensures ∙ c.in-Value.is) (operands_fit c.args.kind c.args.call.now c.requires.fits)

pub push_operand-requires-in-Values-clause-value : goal.push_operand-requires-in-Values-clause-value
push_operand-requires-in-Values-clause-value c =
    let both = subst (OperandsFit c.args.kind) (sym c.operands_in.ensures ∙ c.in-Values.is) (operands_fit c.args.kind c.args.call.now c.requires.fits) in
    both.0

pub push_operand-requires-in-Values-2-clause-value : goal.push_operand-requires-in-Values-2-clause-value
push_operand-requires-in-Values-2-clause-value c =
    let both = subst (OperandsFit c.args.kind) (sym c.operands_in.ensures ∙ c.in-Values.is) (operands_fit c.args.kind c.args.call.now c.requires.fits) in
    both.1
