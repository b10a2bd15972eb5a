-- The operands of operations and of calls.
use Rattle.std.specs.Prelude.{ℕ, ◌<◌, ◌^◌, Bool, true, false, List, [], ◌∷◌, Option, Some, None, ⊤}
use Rattle.op_table.specs.declared.kind.Kind.{Kind}
use Rattle.op_table.specs.declared.kind.Width.TheVariants.{W32}
use Rattle.op_table.specs.declared.call.Call.{Call}
use Rattle.op_table.specs.declared.call.Call.TheVariants as call
use Rattle.op_table.specs.declared.words.Operation.{Operation}
use Rattle.op_table.specs.declared.words.Operation.TheVariants.{Load, Store, Swap, CompareExchange, CompareExchangeWeak, FetchAdd, Add, FetchSub, Sub, FetchAnd, And, FetchNand, FetchOr, Or, FetchXor, Xor, FetchMax, FetchMin, FetchNot, Not, FetchNeg, Neg, BitSet, BitClear, BitToggle, AddFetch, SubFetch, AndFetch, NandFetch, OrFetch, XorFetch, FetchByteAdd, FetchByteSub}
use Rattle.op_table.specs.Words.{integer}
use Rattle.work_lang.specs.declared.operands.Operands.{Operands}
use Rattle.work_lang.specs.declared.operands.Operands.TheVariants as given
use Rattle.work_lang.specs.declared.operands.Arity.{Arity}
use Rattle.work_lang.specs.declared.operands.Arity.TheVariants as arity

-- ---- of operations

-- the operands of an operation, and the call that it makes of them: none, a value of the object's kind, the position
-- of a bit, or two values
pub data Form : Type 0 where
  Alone : Call → Form
  WithValue : (ℕ → Call) → Form
  WithPosition : (ℕ → Call) → Form
  WithValues : (ℕ → ℕ → Call) → Form

abbrev pub form_of : Operation → Form
form_of Load = Alone call.Load
form_of Store = WithValue call.Store
form_of Swap = WithValue call.Swap
form_of CompareExchange = WithValues call.Cas
form_of CompareExchangeWeak = WithValues call.CasWeak
form_of FetchAdd = WithValue (λ a. call.Add a false)
form_of Add = WithValue (λ a. call.Add a true)
form_of FetchSub = WithValue (λ a. call.Sub a false)
form_of Sub = WithValue (λ a. call.Sub a true)
form_of FetchAnd = WithValue (λ a. call.And a false)
form_of And = WithValue (λ a. call.And a true)
form_of FetchNand = WithValue call.Nand
form_of FetchOr = WithValue (λ a. call.Or a false)
form_of Or = WithValue (λ a. call.Or a true)
form_of FetchXor = WithValue (λ a. call.Xor a false)
form_of Xor = WithValue (λ a. call.Xor a true)
form_of FetchMax = WithValue call.Max
form_of FetchMin = WithValue call.Min
form_of FetchNot = Alone (call.Not false)
form_of Not = Alone (call.Not true)
form_of FetchNeg = Alone (call.Neg false)
form_of Neg = Alone (call.Neg true)
form_of BitSet = WithPosition call.BitSet
form_of BitClear = WithPosition call.BitClear
form_of BitToggle = WithPosition call.BitToggle
form_of AddFetch = WithValue call.AddFetch
form_of SubFetch = WithValue call.SubFetch
form_of AndFetch = WithValue call.AndFetch
form_of NandFetch = WithValue call.NandFetch
form_of OrFetch = WithValue call.OrFetch
form_of XorFetch = WithValue call.XorFetch
form_of FetchByteAdd = WithValue (λ a. call.Add a false)
form_of FetchByteSub = WithValue (λ a. call.Sub a false)

-- an operation that version 1 of the language doesn't have: it answers the new value
abbrev pub is_later : Operation → Bool
is_later AddFetch = true
is_later SubFetch = true
is_later AndFetch = true
is_later NandFetch = true
is_later OrFetch = true
is_later XorFetch = true
is_later _ = false

-- a form without its call
abbrev pub arity_in : Form → Arity
arity_in (Alone x) = arity.None
arity_in (WithValue f) = arity.Value
arity_in (WithPosition f) = arity.Position
arity_in (WithValues f) = arity.Values

abbrev pub arity_of : Operation → Arity
arity_of op = arity_in (form_of op)

-- the call that a form makes of operands, where they are its own
abbrev pub alone_in : Form → Option Call
alone_in (Alone x) = Some x
alone_in (WithValue f) = None
alone_in (WithPosition f) = None
alone_in (WithValues f) = None

abbrev pub value_in : Form → ℕ → Option Call
value_in (Alone x) a = None
value_in (WithValue f) a = Some (f a)
value_in (WithPosition f) a = None
value_in (WithValues f) a = None

abbrev pub position_in : Form → ℕ → Option Call
position_in (Alone x) p = None
position_in (WithValue f) p = None
position_in (WithPosition f) p = Some (f p)
position_in (WithValues f) p = None

abbrev pub values_in : Form → ℕ → ℕ → Option Call
values_in (Alone x) e n = None
values_in (WithValue f) e n = None
values_in (WithPosition f) e n = None
values_in (WithValues f) e n = Some (f e n)

-- the call that a form makes where its operands are 0
abbrev pub zero_in : Form → Call
zero_in (Alone x) = x
zero_in (WithValue f) = f 0
zero_in (WithPosition f) = f 0
zero_in (WithValues f) = f 0 0

abbrev pub zero_call : Operation → Call
zero_call op = zero_in (form_of op)

-- ---- of calls

-- positions of bits are read and printed as values of u32
abbrev pub position_kind : Kind
position_kind = integer false W32

-- an operand: the kind as whose value it is read and printed, and the value
pub record Operand : Type 0 where
  pub kind : Kind
  pub value : ℕ

abbrev pub operand : Kind → ℕ → Operand
operand kind v = record { kind = kind; value = v }

abbrev pub operands_in : Call → Operands
operands_in call.Load = given.None
operands_in (call.Store a) = given.Value a
operands_in (call.Swap a) = given.Value a
operands_in (call.Cas e n) = given.Values e n
operands_in (call.CasWeak e n) = given.Values e n
operands_in (call.Add a q) = given.Value a
operands_in (call.Sub a q) = given.Value a
operands_in (call.And a q) = given.Value a
operands_in (call.Nand a) = given.Value a
operands_in (call.Or a q) = given.Value a
operands_in (call.Xor a q) = given.Value a
operands_in (call.Max a) = given.Value a
operands_in (call.Min a) = given.Value a
operands_in (call.Not q) = given.None
operands_in (call.Neg q) = given.None
operands_in (call.BitSet p) = given.Position p
operands_in (call.BitClear p) = given.Position p
operands_in (call.BitToggle p) = given.Position p
operands_in (call.AddFetch a) = given.Value a
operands_in (call.SubFetch a) = given.Value a
operands_in (call.AndFetch a) = given.Value a
operands_in (call.NandFetch a) = given.Value a
operands_in (call.OrFetch a) = given.Value a
operands_in (call.XorFetch a) = given.Value a

abbrev pub listed : Kind → Operands → List Operand
listed kind given.None = []
listed kind (given.Value a) = operand kind a ∷ []
listed kind (given.Position p) = operand position_kind p ∷ []
listed kind (given.Values e n) = operand kind e ∷ operand kind n ∷ []

-- the operands of a call on an object of a kind, in order
abbrev pub operands_of : Kind → Call → List Operand
operands_of kind x = listed kind (operands_in x)

-- the position of a bit, where there is one, is a value of u32
abbrev pub HasPosition : Call → Type 0
HasPosition (call.BitSet p) = p < 2 ^ 32
HasPosition (call.BitClear p) = p < 2 ^ 32
HasPosition (call.BitToggle p) = p < 2 ^ 32
HasPosition _ = ⊤
