use Rattle.std.proofs.Common.{ℕ, ◌≡◌, ◌≤◌, ap, refl, arith, length, length-append}
use Rattle.std.specs.Fmt.{decimal}
use Rattle.std.proofs.lemmas.Fmt.{length-decimal-le}
use Rattle.report_text.proofs.reports.write_head.Goals as goal

pub push_number-requires : goal.push_number-requires
push_number-requires g c =
    let short : length (decimal c.from.result) ≤ 20 = length-decimal-le 20 c.from.result (omega arith) (omega arith) c.from.type_inv in
    let head : length c.push_text.new.self ≡ 7 = rw (c.push_text.ensures, c.new-out.ensures) refl in
    omega (arith, short, head)

pub push_text-requires-2 : goal.push_text-requires-2
push_text-requires-2 g c =
    let short : length (decimal c.from.result) ≤ 20 = length-decimal-le 20 c.from.result (omega arith) (omega arith) c.from.type_inv in
    let head : length c.push_text.new.self ≡ 7 = rw (c.push_text.ensures, c.new-out.ensures) refl in
    omega (arith, short, head, ap length c.push_number.ensures, length-append {A = ℕ})
