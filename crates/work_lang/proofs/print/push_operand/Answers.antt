use Rattle.std.proofs.Common.{ap, arith, length-append, length, ℕ}
use Rattle.op_table.proofs.ValueTexts.{value_text_is_short}
use Rattle.work_lang.proofs.print.push_operand.Goals as goal

pub push_value-requires-clause-room : goal.push_value-requires-clause-room
push_value-requires-clause-room c =
    let short = value_text_is_short c.args.kind c.args.value c.requires.kind c.requires.value in
    omega (arith, short.short, ap length c.push_text.ensures, length-append {A = ℕ})

pub returns-clause-short : goal.returns-clause-short
returns-clause-short c =
    let short = value_text_is_short c.args.kind c.args.value c.requires.kind c.requires.value in
    omega (arith, short.short, ap length c.push_value.ensures, ap length c.push_text.ensures, length-append {A = ℕ})
