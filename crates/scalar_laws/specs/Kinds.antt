-- The kinds of Rust's scalar types.
use Rattle.std.specs.Prelude.{ℕ, Bool, false}
use Rattle.op_table.specs.declared.kind.Width.{Width}
use Rattle.op_table.specs.declared.kind.Width.TheVariants.{W1, W64}
use Rattle.op_table.specs.declared.kind.Class.TheVariants as class
use Rattle.op_table.specs.declared.kind.Kind.{Kind}
use Rattle.scalar_laws.specs.declared.addr.Addr.{Addr}

-- the kind of an integer type
abbrev pub integer : Width → Bool → Kind
integer width signed = record { width = width; signed = signed; class = class.Int }

-- the kind of truth values
abbrev pub truth : Kind
truth = record { width = W1; signed = false; class = class.Bool }

-- the kind of addresses
abbrev pub address : Kind
address = record { width = W64; signed = false; class = class.Ptr }

-- the address of a number
abbrev pub addr_of : ℕ → Addr
addr_of n = record { 0 = n }
