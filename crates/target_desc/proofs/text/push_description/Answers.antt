use Rattle.std.proofs.Common.{ap, arith, ℕ, length, length-append}
use Rattle.std.specs.Fmt.{decimal}
use Rattle.target_desc.proofs.Printed.{big_described}
use Rattle.target_desc.proofs.text.push_description.Goals as goal

pub push_next-requires-then-target : goal.push_next-requires-then-target
push_next-requires-then-target c =
    omega (
      arith,
      c.requires,
      ap (λ (n : ℕ). length (decimal n)) c.from.ensures,
      ap length c.packed_word.ensures,
      ap length c.steps_word.ensures,
      ap (λ (n : ℕ). length (decimal n)) c.from-2.ensures,
      ap length c.section_word.ensures,
      big_described c.args.target.now c.if-target.true,
      ap length c.push_number.ensures,
      ap length c.push_next.ensures,
      ap length c.push_next-2.ensures,
      ap length c.push_text.ensures,
      ap length c.push_number-2.ensures,
      ap length c.push_next-3.ensures,
      length-append {A = ℕ},
    )
