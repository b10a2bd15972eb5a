use Rattle.std.proofs.Common.{ℕ, ap, arith, length, length-append}
use Rattle.op_table.proofs.ValueTexts.{value_text_is_short}
use Rattle.report_text.proofs.replies.push_value.Goals as goal

pub push_value-requires-clause-room : goal.push_value-requires-clause-room
push_value-requires-clause-room c = let short = value_text_is_short c.args.kind c.args.value c.requires.kind c.requires.value in omega (arith, short.short)

pub returns-clause-short : goal.returns-clause-short
returns-clause-short c =
    let short = value_text_is_short c.args.kind c.args.value c.requires.kind c.requires.value in
    omega (arith, short.short, ap length c.push_value.ensures, length-append {A = ℕ})
