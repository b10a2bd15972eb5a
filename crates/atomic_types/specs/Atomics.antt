-- What contracts say of typed calls.
use Rattle.std.specs.Prelude.{◌≡◌, ℕ, ◌<◌, Bool, if◌then◌else◌, length, ⊤, Result, Ok, Err}
use Rattle.op_table.specs.declared.kind.Kind.{Kind}
use Rattle.op_table.specs.declared.call.Call.{Call}
use Rattle.op_table.specs.declared.call.Call.TheVariants.{Load, Store, Swap, Cas, CasWeak, Add, Sub, And, Nand, Or, Xor, Max, Min, Not, Neg, BitSet, BitClear, BitToggle, AddFetch, SubFetch, AndFetch, NandFetch, OrFetch, XorFetch}
use Rattle.op_table.specs.declared.call.Reply.{Reply}
use Rattle.op_table.specs.declared.call.Reply.TheVariants as reply
use Rattle.op_table.specs.Kind.{values_of}
use Rattle.place_core.specs.declared.shape.Shape.{Shape}
use Rattle.place_core.specs.Shapes.{kind_of}

-- the shape has at this number an object of this kind
abbrev pub HasAtomic : Shape → Kind → ℕ → Type 0
HasAtomic S kind o = (o < length S.objects) × (kind_of S o ≡ kind)

-- the forms of answers: nothing, the value before the call, the value after it, whether a bit was 1, and the value of an
-- exchange, done or failed
pub data Form : Type 0 where
  Nothing : Form
  Before : Form
  After : Form
  Bit : Form
  Exchanged : Form

-- the value before, unless the call is quiet
abbrev pub form_unless_quiet : Bool → Form
form_unless_quiet q = if q then Nothing else Before

-- the form of a call's answer
abbrev pub form_of : Call → Form
form_of Load = Before
form_of (Store a) = Nothing
form_of (Swap a) = Before
form_of (Cas e n) = Exchanged
form_of (CasWeak e n) = Exchanged
form_of (Add a q) = form_unless_quiet q
form_of (Sub a q) = form_unless_quiet q
form_of (And a q) = form_unless_quiet q
form_of (Nand a) = Before
form_of (Or a q) = form_unless_quiet q
form_of (Xor a q) = form_unless_quiet q
form_of (Max a) = Before
form_of (Min a) = Before
form_of (Not q) = form_unless_quiet q
form_of (Neg q) = form_unless_quiet q
form_of (BitSet p) = Bit
form_of (BitClear p) = Bit
form_of (BitToggle p) = Bit
form_of (AddFetch a) = After
form_of (SubFetch a) = After
form_of (AndFetch a) = After
form_of (NandFetch a) = After
form_of (OrFetch a) = After
form_of (XorFetch a) = After

-- the reply has the form, and its number is a value of the kind
abbrev pub HasForm : Form → Kind → Reply → Type 0
HasForm Nothing kind reply.Unit = ⊤
HasForm Before kind (reply.Value n) = n < values_of kind
HasForm After kind (reply.Value n) = n < values_of kind
HasForm Bit kind (reply.Bit b) = ⊤
HasForm Exchanged kind (reply.Done n) = n < values_of kind
HasForm Exchanged kind (reply.Failed n) = n < values_of kind
HasForm _ kind _ = ⊥

-- the reply to an exchange, of its answer; `bits` gives a value's number
abbrev pub exchanged : {V : Type 0} → (V → ℕ) → Result V V → Reply
exchanged bits (Ok v) = reply.Done (bits v)
exchanged bits (Err v) = reply.Failed (bits v)
