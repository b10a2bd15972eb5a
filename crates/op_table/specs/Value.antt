-- The texts of values. Each value has one text.
use Rattle.std.specs.Prelude.{ℕ, ◌-◌, ◌/◌, List, [], ◌∷◌, ◌++◌, length, drop, Bool, false, ◌&&◌, ◌||◌, not, nat_le, nat_lt, ◌==◌, slice_index, codes, if◌then◌else◌, Result, Ok, Err}
use Rattle.std.specs.List.{list_all}
use Rattle.std.specs.Str.{bytes_eq}
use Rattle.std.specs.Fmt.{decimal, digits}
use Rattle.std.specs.Str.Parse.{digits_value}
use Rattle.op_table.specs.declared.kind.Kind.{Kind}
use Rattle.op_table.specs.declared.kind.Class.{Class}
use Rattle.op_table.specs.declared.kind.Class.TheVariants as class
use Rattle.op_table.specs.declared.value.ValueFault.{ValueFault}
use Rattle.op_table.specs.declared.value.ValueFault.TheVariants.{BadNumber, OutOfRange}
use Rattle.op_table.specs.Kind.{values_of}

-- ---- forms

abbrev pub is_digit : ℕ → Bool
is_digit b = nat_le 48 b && nat_le b 57

abbrev pub is_hex_digit : ℕ → Bool
is_hex_digit b = is_digit b || (nat_le 97 b && nat_le b 102)

-- `0`, or digits that don't begin with 0
abbrev pub is_numeral : (ℕ → Bool) → List ℕ → Bool
is_numeral digit [] = false
is_numeral digit (b ∷ bs) = list_all digit (b ∷ bs) && (not (b == 48) || length bs == 0)

abbrev pub is_natural : List ℕ → Bool
is_natural text = is_numeral is_digit text

-- a minus, and digits that don't begin with 0
abbrev pub is_negative : List ℕ → Bool
is_negative [] = false
is_negative (b ∷ bs) = (b == 45) && is_natural bs && not (slice_index bs 0 == 48)

-- `0x0`, or `0x` and lower-case hexadecimal digits that don't begin with 0
abbrev pub is_address : List ℕ → Bool
is_address [] = false
is_address (a ∷ []) = false
is_address (a ∷ b ∷ bs) = (a == 48) && (b == 120) && is_numeral is_hex_digit bs

-- ---- reading

-- a number of which so many are values
abbrev pub below : ℕ → ℕ → Result ℕ ValueFault
below bound n = if nat_lt n bound then Ok n else Err OutOfRange

-- how many values of a kind are read as numbers that are not negative
abbrev pub naturals_of : Kind → ℕ
naturals_of kind = if kind.signed then values_of kind / 2 else values_of kind

-- the pattern of minus n (two's complement)
abbrev pub negative_value : Kind → ℕ → Result ℕ ValueFault
negative_value kind n = if kind.signed && nat_le n (values_of kind / 2) then Ok (values_of kind - n) else Err OutOfRange

abbrev pub parsed_int : Kind → List ℕ → Result ℕ ValueFault
parsed_int kind text = if is_natural text then below (naturals_of kind) (digits_value 10 text)
    else if is_negative text then negative_value kind (digits_value 10 (drop 1 text))
    else Err BadNumber

abbrev pub parsed_bool : List ℕ → Result ℕ ValueFault
parsed_bool text = if bytes_eq text (codes "false") then Ok 0 else if bytes_eq text (codes "true") then Ok 1 else Err BadNumber

abbrev pub parsed_address : Kind → List ℕ → Result ℕ ValueFault
parsed_address kind text = if is_address text then below (values_of kind) (digits_value 16 (drop 2 text)) else Err BadNumber

abbrev pub parsed_as : Class → Kind → List ℕ → Result ℕ ValueFault
parsed_as class.Int kind text = parsed_int kind text
parsed_as class.Bool kind text = parsed_bool text
parsed_as class.Ptr kind text = parsed_address kind text

-- the value that a text spells, or what is wrong with it
unfoldable pub parsed_value : Kind → List ℕ → Result ℕ ValueFault
parsed_value kind text = parsed_as kind.class kind text

-- ---- printing

abbrev pub int_text : Kind → ℕ → List ℕ
int_text kind v = if nat_lt v (naturals_of kind) then decimal v else 45 ∷ decimal (values_of kind - v)

abbrev pub bool_text : ℕ → List ℕ
bool_text v = if v == 0 then codes "false" else codes "true"

abbrev pub address_text : ℕ → List ℕ
address_text v = codes "0x" ++ digits 16 false v

abbrev pub text_as : Class → Kind → ℕ → List ℕ
text_as class.Int kind v = int_text kind v
text_as class.Bool kind v = bool_text v
text_as class.Ptr kind v = address_text v

-- the text of a value
unfoldable pub value_text : Kind → ℕ → List ℕ
value_text kind v = text_as kind.class kind v
