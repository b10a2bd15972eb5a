use Rattle.std.proofs.Common.{◌≡◌, ◌<◌, ◌^◌, length}
use Rattle.op_table.specs.Numeral.{read_on}
use Rattle.op_table.proofs.numeral.read_digits.Given as goal

abbrev pub invariant-digits : goal.invariant-digits
invariant-digits l = record { so_far : read_on l.base l.n l.rest ≡ read_on l.base 0 l.text; fits : l.n < 2 ^ 128 }

abbrev pub decreases-digits : goal.decreases-digits
decreases-digits l = length l.rest
