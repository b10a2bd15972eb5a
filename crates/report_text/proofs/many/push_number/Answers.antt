use Rattle.std.proofs.Common.{ℕ, ◌≤◌, ap, arith, length, length-append}
use Rattle.std.specs.Fmt.{decimal}
use Rattle.std.proofs.lemmas.Fmt.{length-decimal-le}
use Rattle.report_text.proofs.many.push_number.Goals as goal

pub push_number-requires : goal.push_number-requires
push_number-requires c =
    let short : length (decimal c.args.number) ≤ 20 = length-decimal-le 20 c.args.number (omega arith) (omega arith) (omega arith) in
    omega (arith, short)

pub returns-clause-short : goal.returns-clause-short
returns-clause-short c =
    let short : length (decimal c.args.number) ≤ 20 = length-decimal-le 20 c.args.number (omega arith) (omega arith) (omega arith) in
    omega (arith, short, ap length c.push_number.ensures, length-append {A = ℕ})
