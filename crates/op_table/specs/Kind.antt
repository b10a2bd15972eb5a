-- Widths and kinds.
use Rattle.std.specs.Prelude.{◌≡◌, ◌≢◌, ℕ, ◌^◌, false}
use Rattle.op_table.specs.declared.kind.Width.{Width}
use Rattle.op_table.specs.declared.kind.Width.TheVariants.{W1, W8, W16, W32, W64, W128}
use Rattle.op_table.specs.declared.kind.Class.{Class}
use Rattle.op_table.specs.declared.kind.Class.TheVariants.{Int, Bool, Ptr}
use Rattle.op_table.specs.declared.kind.Kind.{Kind}

-- the bits of a width
abbrev pub bits_of : Width → ℕ
bits_of W1 = 1
bits_of W8 = 8
bits_of W16 = 16
bits_of W32 = 32
bits_of W64 = 64
bits_of W128 = 128

-- the bytes that a value of a width takes up, a bool one
abbrev pub width_bytes : Width → ℕ
width_bytes W1 = 1
width_bytes W8 = 1
width_bytes W16 = 2
width_bytes W32 = 4
width_bytes W64 = 8
width_bytes W128 = 16

-- the bytes that a value of a kind takes up
abbrev pub bytes_of : Kind → ℕ
bytes_of kind = width_bytes kind.width

-- how many values a kind has, 2 to its width; a number below it is a value of the kind
abbrev pub values_of : Kind → ℕ
values_of kind = 2 ^ bits_of kind.width

abbrev pub IsOfClass : Class → Kind → Type 0
IsOfClass Int kind = kind.width ≢ W1
IsOfClass Bool kind = (kind.width ≡ W1) × (kind.signed ≡ false)
IsOfClass Ptr kind = (kind.width ≡ W64) × (kind.signed ≡ false)

-- one of the twelve kinds
abbrev pub IsKind : Kind → Type 0
IsKind kind = IsOfClass kind.class kind
