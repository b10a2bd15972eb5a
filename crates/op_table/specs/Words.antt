-- The words of kinds and operations. A table is a list of rows, each a word and what it stands for.
use Rattle.std.specs.Prelude.{ℕ, List, [], ◌∷◌, ◌++◌, length, Bool, true, false, ◌&&◌, nat_le, codes, if◌then◌else◌, Option, Some, None, is_some}
use Rattle.std.specs.Str.{bytes_eq}
use Rattle.op_table.specs.declared.kind.Width.{Width}
use Rattle.op_table.specs.declared.kind.Width.TheVariants.{W1, W8, W16, W32, W64, W128}
use Rattle.op_table.specs.declared.kind.Class.{Class}
use Rattle.op_table.specs.declared.kind.Class.TheVariants as class
use Rattle.op_table.specs.declared.kind.Kind.{Kind}
use Rattle.op_table.specs.declared.call.Call.{Call}
use Rattle.op_table.specs.declared.call.Call.TheVariants as call
use Rattle.op_table.specs.declared.words.Operation.{Operation}
use Rattle.op_table.specs.declared.words.Operation.TheVariants.{Load, Store, Swap, CompareExchange, CompareExchangeWeak, FetchAdd, Add, FetchSub, Sub, FetchAnd, And, FetchNand, FetchOr, Or, FetchXor, Xor, FetchMax, FetchMin, FetchNot, Not, FetchNeg, Neg, BitSet, BitClear, BitToggle, AddFetch, SubFetch, AndFetch, NandFetch, OrFetch, XorFetch, FetchByteAdd, FetchByteSub}

-- ---- tables

-- what the first row with the word stands for
abbrev pub among : {A : Type 0} → List (List ℕ × A) → List ℕ → Option A
among [] w = None
among (row ∷ rows) w = if bytes_eq w row.0 then Some row.1 else among rows w

-- a row for each item, with its word
abbrev pub rows_by : {A : Type 0} → (A → List ℕ) → List A → List (List ℕ × A)
rows_by word [] = []
rows_by word (x ∷ xs) = (word x, x) ∷ rows_by word xs

-- the rows whose words have so many bytes
abbrev pub of_lengths : {A : Type 0} → ℕ → ℕ → List (List ℕ × A) → List (List ℕ × A)
of_lengths low high [] = []
of_lengths low high (row ∷ rows) = if nat_le low (length row.0) && nat_le (length row.0) high then row ∷ of_lengths low high rows else of_lengths low high rows

-- ---- kinds

abbrev pub integer : Bool → Width → Kind
integer signed width = record { width = width; signed = signed; class = class.Int }

abbrev pub integer_word : Bool → Width → List ℕ
integer_word true W8 = codes "i8"
integer_word true W16 = codes "i16"
integer_word true W32 = codes "i32"
integer_word true W64 = codes "i64"
integer_word true W128 = codes "i128"
integer_word false W8 = codes "u8"
integer_word false W16 = codes "u16"
integer_word false W32 = codes "u32"
integer_word false W64 = codes "u64"
integer_word false W128 = codes "u128"
integer_word signed W1 = []

abbrev pub word_as : Class → Kind → List ℕ
word_as class.Int kind = integer_word kind.signed kind.width
word_as class.Bool kind = codes "bool"
word_as class.Ptr kind = codes "ptr"

-- the word that is printed of a kind
abbrev pub kind_word : Kind → List ℕ
kind_word kind = word_as kind.class kind

-- the twelve kinds
abbrev pub kinds : List Kind
kinds = record { width = W1; signed = false; class = class.Bool }
    ∷ integer true W8 ∷ integer true W16 ∷ integer true W32 ∷ integer true W64 ∷ integer true W128
    ∷ integer false W8 ∷ integer false W16 ∷ integer false W32 ∷ integer false W64 ∷ integer false W128
    ∷ record { width = W64; signed = false; class = class.Ptr } ∷ []

-- `isize` and `usize` are read, and never printed
abbrev pub kind_rows : List (List ℕ × Kind)
kind_rows = rows_by kind_word kinds ++ ((codes "isize", integer true W64) ∷ (codes "usize", integer false W64) ∷ [])

-- the kind that a word stands for
unfoldable pub kind_of_word : List ℕ → Option Kind
kind_of_word w = among kind_rows w

-- ---- operations

abbrev pub operation_word : Operation → List ℕ
operation_word Load = codes "load"
operation_word Store = codes "store"
operation_word Swap = codes "swap"
operation_word CompareExchange = codes "compare_exchange"
operation_word CompareExchangeWeak = codes "compare_exchange_weak"
operation_word FetchAdd = codes "fetch_add"
operation_word Add = codes "add"
operation_word FetchSub = codes "fetch_sub"
operation_word Sub = codes "sub"
operation_word FetchAnd = codes "fetch_and"
operation_word And = codes "and"
operation_word FetchNand = codes "fetch_nand"
operation_word FetchOr = codes "fetch_or"
operation_word Or = codes "or"
operation_word FetchXor = codes "fetch_xor"
operation_word Xor = codes "xor"
operation_word FetchMax = codes "fetch_max"
operation_word FetchMin = codes "fetch_min"
operation_word FetchNot = codes "fetch_not"
operation_word Not = codes "not"
operation_word FetchNeg = codes "fetch_neg"
operation_word Neg = codes "neg"
operation_word BitSet = codes "bit_set"
operation_word BitClear = codes "bit_clear"
operation_word BitToggle = codes "bit_toggle"
operation_word AddFetch = codes "add_fetch"
operation_word SubFetch = codes "sub_fetch"
operation_word AndFetch = codes "and_fetch"
operation_word NandFetch = codes "nand_fetch"
operation_word OrFetch = codes "or_fetch"
operation_word XorFetch = codes "xor_fetch"
operation_word FetchByteAdd = codes "fetch_byte_add"
operation_word FetchByteSub = codes "fetch_byte_sub"

-- the operations of a class, in the order in which plans list them
abbrev pub operations_of : Class → List Operation
operations_of class.Int = Load ∷ Store ∷ Swap ∷ CompareExchange ∷ CompareExchangeWeak ∷ FetchAdd ∷ Add ∷ FetchSub ∷ Sub ∷ FetchAnd ∷ And ∷ FetchNand ∷ FetchOr ∷ Or ∷ FetchXor ∷ Xor ∷ FetchMax ∷ FetchMin ∷ FetchNot ∷ Not ∷ FetchNeg ∷ Neg ∷ BitSet ∷ BitClear ∷ BitToggle ∷ AddFetch ∷ SubFetch ∷ AndFetch ∷ NandFetch ∷ OrFetch ∷ XorFetch ∷ []
operations_of class.Bool = Load ∷ Store ∷ Swap ∷ CompareExchange ∷ CompareExchangeWeak ∷ FetchAnd ∷ And ∷ FetchNand ∷ FetchOr ∷ Or ∷ FetchXor ∷ Xor ∷ FetchNot ∷ Not ∷ AndFetch ∷ NandFetch ∷ OrFetch ∷ XorFetch ∷ []
operations_of class.Ptr = Load ∷ Store ∷ Swap ∷ CompareExchange ∷ CompareExchangeWeak ∷ FetchByteAdd ∷ FetchByteSub ∷ FetchAnd ∷ FetchOr ∷ FetchXor ∷ BitSet ∷ BitClear ∷ BitToggle ∷ []

abbrev pub operation_rows : List (List ℕ × Operation)
operation_rows = rows_by operation_word (operations_of class.Int ++ (FetchByteAdd ∷ FetchByteSub ∷ []))

-- the operation that a word stands for
unfoldable pub operation_of_word : List ℕ → Option Operation
operation_of_word w = among operation_rows w

-- the operation's word is one of the class's
abbrev pub has_operation : Class → Operation → Bool
has_operation c op = is_some (among (rows_by operation_word (operations_of c)) (operation_word op))

-- ---- calls

abbrev pub loud_or_quiet : Bool → Operation → Operation → Operation
loud_or_quiet quiet replying silent = if quiet then silent else replying

-- a pointer's Add and Sub count bytes
abbrev pub sum_operation : Class → Bool → Operation → Operation → Operation → Operation
sum_operation class.Int quiet replying silent bytewise = loud_or_quiet quiet replying silent
sum_operation class.Bool quiet replying silent bytewise = loud_or_quiet quiet replying silent
sum_operation class.Ptr quiet replying silent bytewise = bytewise

-- the operation that a call of a kind is
abbrev pub operation_of : Kind → Call → Operation
operation_of kind call.Load = Load
operation_of kind (call.Store a) = Store
operation_of kind (call.Swap a) = Swap
operation_of kind (call.Cas e n) = CompareExchange
operation_of kind (call.CasWeak e n) = CompareExchangeWeak
operation_of kind (call.Add a q) = sum_operation kind.class q FetchAdd Add FetchByteAdd
operation_of kind (call.Sub a q) = sum_operation kind.class q FetchSub Sub FetchByteSub
operation_of kind (call.And a q) = loud_or_quiet q FetchAnd And
operation_of kind (call.Nand a) = FetchNand
operation_of kind (call.Or a q) = loud_or_quiet q FetchOr Or
operation_of kind (call.Xor a q) = loud_or_quiet q FetchXor Xor
operation_of kind (call.Max a) = FetchMax
operation_of kind (call.Min a) = FetchMin
operation_of kind (call.Not q) = loud_or_quiet q FetchNot Not
operation_of kind (call.Neg q) = loud_or_quiet q FetchNeg Neg
operation_of kind (call.BitSet p) = BitSet
operation_of kind (call.BitClear p) = BitClear
operation_of kind (call.BitToggle p) = BitToggle
operation_of kind (call.AddFetch a) = AddFetch
operation_of kind (call.SubFetch a) = SubFetch
operation_of kind (call.AndFetch a) = AndFetch
operation_of kind (call.NandFetch a) = NandFetch
operation_of kind (call.OrFetch a) = OrFetch
operation_of kind (call.XorFetch a) = XorFetch

-- the word of a call of a kind
abbrev pub call_word : Kind → Call → List ℕ
call_word kind x = operation_word (operation_of kind x)
