use Rattle.work_lang.specs.Operands.{form_of}
use Rattle.work_lang.proofs.FormReads.{alone_is_zero, value_is_zero, position_is_zero, values_are_zero}
use Rattle.work_lang.proofs.operands.zero_call.Goals as goal

pub returns-in-None : goal.returns-in-None
returns-in-None c = alone_is_zero (form_of c.args.operation) c.alone.result c.alone.ensures

pub returns-in-Value : goal.returns-in-Value
returns-in-Value c = value_is_zero (form_of c.args.operation) c.with_value.result c.with_value.ensures

pub returns-in-Position : goal.returns-in-Position
returns-in-Position c = position_is_zero (form_of c.args.operation) c.with_position.result c.with_position.ensures

pub returns-in-Values : goal.returns-in-Values
returns-in-Values c = values_are_zero (form_of c.args.operation) c.with_values.result c.with_values.ensures
