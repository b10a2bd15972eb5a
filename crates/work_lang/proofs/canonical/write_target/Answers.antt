use Rattle.std.proofs.Common.{◌≡◌, ℕ, ap, refl, arith, length, length-append}
use Rattle.target_desc.proofs.Printed.{text_is_short}
use Rattle.work_lang.proofs.canonical.write_target.Goals as goal

pub push_text-requires-2 : goal.push_text-requires-2
push_text-requires-2 g c =
    let head : length c.push_text.new.self ≡ 7 = rw (c.push_text.ensures, c.new-out.ensures) refl in
    omega (arith, text_is_short c.args.target.now c.requires, head, ap length c.push_target.ensures, length-append {A = ℕ})
