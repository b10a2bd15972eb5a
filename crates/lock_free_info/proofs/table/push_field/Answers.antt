use Rattle.std.proofs.Common.{ℕ, ◌≤◌, ap, arith, length, length-append}
use Rattle.std.specs.Fmt.{decimal}
use Rattle.std.proofs.lemmas.Fmt.{length-decimal-le}
use Rattle.lock_free_info.proofs.table.push_field.Goals as goal

-- a number of 32 bits has 10 digits at most
pub push_number-requires : goal.push_number-requires
push_number-requires c =
    let short : length (decimal c.from.result) ≤ 10 = length-decimal-le 10 c.from.result (omega arith) (omega arith) (omega arith) in
    omega (arith, short, ap length c.push_text.ensures, length-append {A = ℕ})

pub returns-clause-short : goal.returns-clause-short
returns-clause-short c =
    let short : length (decimal c.from.result) ≤ 10 = length-decimal-le 10 c.from.result (omega arith) (omega arith) (omega arith) in
    omega (arith, short, ap length c.push_text.ensures, ap length c.push_number.ensures, length-append {A = ℕ})
