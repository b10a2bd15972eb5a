use Rattle.std.proofs.Common.{ℕ, ◌≤◌, ap, arith, length, length-append}
use Rattle.std.specs.Fmt.{decimal}
use Rattle.std.proofs.lemmas.Fmt.{length-decimal-le}
use Rattle.top_call.proofs.faults.push_number.Goals as goal

pub push_number-requires : goal.push_number-requires
push_number-requires c =
    let short : length (decimal c.from.result) ≤ 20 = length-decimal-le 20 c.from.result (omega arith) (omega arith) c.from.type_inv in
    omega (arith, short)

pub returns-clause-short : goal.returns-clause-short
returns-clause-short c =
    let short : length (decimal c.from.result) ≤ 20 = length-decimal-le 20 c.from.result (omega arith) (omega arith) c.from.type_inv in
    omega (arith, short, ap length c.push_number.ensures, length-append {A = ℕ})
