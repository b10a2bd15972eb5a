use Rattle.std.proofs.Common.{sym, ◌∙◌}
use Rattle.work_lang.specs.Operands.{form_of}
use Rattle.work_lang.proofs.FormReads.{alone_read, value_read, value_fails, position_read, position_fails, values_read, first_fails, second_fails, reads_exit}
use Rattle.work_lang.proofs.operands.read_operands.Goals as goal

pub returns-in-None : goal.returns-in-None
returns-in-None c = alone_read c.args.kind (form_of c.args.operation) c.args.words.now.cursor c.alone.result c.alone.ensures

pub returns-in_ok-a-in-Value : goal.returns-in_ok-a-in-Value
returns-in_ok-a-in-Value c = value_read c.args.kind (form_of c.args.operation) c.args.words.now.cursor c.number.new.words.cursor c.in_ok-a-in-Value.a c.with_value.result c.in_ok-a-in-Value.ensures c.with_value.ensures

pub returns-in_err-a-in-Value : goal.returns-in_err-a-in-Value
returns-in_err-a-in-Value c = reads_exit c.from_residual.result c.in_err-a-in-Value.field-0.0 _ _ c.from_residual.ensures.1 (value_fails c.args.kind (form_of c.args.operation) c.args.words.now.cursor _ (sym c.arity_of.ensures ∙ c.in-Value.is) c.in_err-a-in-Value.ensures)

pub returns-in_ok-p-in-Position : goal.returns-in_ok-p-in-Position
returns-in_ok-p-in-Position c = position_read c.args.kind (form_of c.args.operation) c.args.words.now.cursor c.position.new.words.cursor c.in_ok-p-in-Position.p c.with_position.result c.in_ok-p-in-Position.ensures c.with_position.ensures

pub returns-in_err-p-in-Position : goal.returns-in_err-p-in-Position
returns-in_err-p-in-Position c = reads_exit c.from_residual-in_err-p-in-Position.result c.in_err-p-in-Position.field-0.0 _ _ c.from_residual-in_err-p-in-Position.ensures.1 (position_fails c.args.kind (form_of c.args.operation) c.args.words.now.cursor _ (sym c.arity_of.ensures ∙ c.in-Position.is) c.in_err-p-in-Position.ensures)

pub returns-in_ok-new-in-Values : goal.returns-in_ok-new-in-Values
returns-in_ok-new-in-Values c = values_read c.args.kind (form_of c.args.operation) c.args.words.now.cursor c.number-in-Values.new.words.cursor c.number-in-Values-2.new.words.cursor c.in_ok-expected-in-Values.expected c.in_ok-new-in-Values.new c.with_values.result c.in_ok-expected-in-Values.ensures c.in_ok-new-in-Values.ensures c.with_values.ensures

pub returns-in_err-expected-in-Values : goal.returns-in_err-expected-in-Values
returns-in_err-expected-in-Values c = reads_exit c.from_residual-in_err-expected-in-Values.result c.in_err-expected-in-Values.field-0.0 _ _ c.from_residual-in_err-expected-in-Values.ensures.1 (first_fails c.args.kind (form_of c.args.operation) c.args.words.now.cursor _ (sym c.arity_of.ensures ∙ c.in-Values.is) c.in_err-expected-in-Values.ensures)

pub returns-in_err-new-in-Values : goal.returns-in_err-new-in-Values
returns-in_err-new-in-Values c = reads_exit c.from_residual-in_err-new-in-Values.result c.in_err-new-in-Values.field-0.0 _ _ c.from_residual-in_err-new-in-Values.ensures.1 (second_fails c.args.kind (form_of c.args.operation) c.args.words.now.cursor c.number-in-Values.new.words.cursor c.in_ok-expected-in-Values.expected _ (sym c.arity_of.ensures ∙ c.in-Values.is) c.in_ok-expected-in-Values.ensures c.in_err-new-in-Values.ensures)
