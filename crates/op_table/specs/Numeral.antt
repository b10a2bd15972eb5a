-- Digits of a base, read from the left as numbers of 128 bits.
use Rattle.std.specs.Prelude.{ℕ, ◌^◌, List, Bool, nat_lt, Option, Some, None, if◌then◌else◌, Result, Err}
use Rattle.std.specs.List.{list_all}
use Rattle.std.specs.Str.Parse.{digits_value, digits_value_after}
use Rattle.op_table.specs.declared.numeral.Base.{Base}
use Rattle.op_table.specs.declared.numeral.Base.TheVariants.{Ten, Sixteen}
use Rattle.op_table.specs.declared.value.ValueFault.{ValueFault}
use Rattle.op_table.specs.declared.value.ValueFault.TheVariants.{BadNumber}
use Rattle.op_table.specs.Value.{is_digit, is_hex_digit, is_numeral, below}

-- how many digits a base has
abbrev pub base_of : Base → ℕ
base_of Ten = 10
base_of Sixteen = 16

abbrev pub is_digit_of : Base → ℕ → Bool
is_digit_of Ten b = is_digit b
is_digit_of Sixteen b = is_hex_digit b

-- a number that has 128 bits
abbrev pub fitting : ℕ → Option ℕ
fitting n = if nat_lt n (2 ^ 128) then Some n else None

-- the number of digits that follow those of n
abbrev pub read_on : Base → ℕ → List ℕ → Result ℕ ValueFault
read_on base n ds = if list_all (is_digit_of base) ds then below (2 ^ 128) (digits_value_after (base_of base) n ds) else Err BadNumber

-- the number of a text that is `0`, or digits that don't begin with 0
abbrev pub numeral_of : Base → List ℕ → Result ℕ ValueFault
numeral_of base text = if is_numeral (is_digit_of base) text then below (2 ^ 128) (digits_value (base_of base) text) else Err BadNumber
