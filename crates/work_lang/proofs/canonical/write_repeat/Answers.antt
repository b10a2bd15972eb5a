use Rattle.std.proofs.Common.{◌≡◌, ℕ, ap, refl, arith, length, length-append}
use Rattle.op_table.proofs.ValueTexts.{value_text_is_short}
use Rattle.work_lang.specs.Operands.{position_kind}
use Rattle.work_lang.proofs.OperandTexts.{position_is_kind}
use Rattle.work_lang.proofs.canonical.write_repeat.Goals as goal

pub push_value-requires-clause-room : goal.push_value-requires-clause-room
push_value-requires-clause-room g c =
    let value = value_text_is_short position_kind c.args.times position_is_kind c.ranges.times.fits in
    let head : length c.push_text.new.self ≡ 8 = rw (c.push_text.ensures, c.new-out.ensures) refl in
    omega (arith, head, value.short)

pub push_text-requires-2 : goal.push_text-requires-2
push_text-requires-2 g c =
    let value = value_text_is_short position_kind c.args.times position_is_kind c.ranges.times.fits in
    let head : length c.push_text.new.self ≡ 8 = rw (c.push_text.ensures, c.new-out.ensures) refl in
    omega (arith, head, value.short, ap length c.push_value.ensures, length-append {A = ℕ})
