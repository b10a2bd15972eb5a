-- The names of GCC's sized functions.
use Rattle.std.specs.Prelude.{◌≡◌, ℕ, ◌-◌, List, [], ◌∷◌, ◌++◌, length, take, drop, codes, true, if◌then◌else◌, Option, Some, None}
use Rattle.std.specs.Str.{bytes_eq}
use Rattle.op_table.specs.Words.{among, rows_by}
use Rattle.sized_calls.specs.Sizes.{is_size, sizes, size_digits}
use Rattle.sized_calls.specs.declared.operation.SizedOp.{SizedOp}
use Rattle.sized_calls.specs.declared.operation.SizedOp.TheVariants.{Load, Store, Exchange, CompareExchange, FetchAdd, FetchSub, FetchAnd, FetchOr, FetchXor, FetchNand, AddFetch, SubFetch, AndFetch, OrFetch, XorFetch, NandFetch}

-- ---- what a name is

-- the words of an operation
abbrev pub operation_words : SizedOp → List ℕ
operation_words Load = codes "load"
operation_words Store = codes "store"
operation_words Exchange = codes "exchange"
operation_words CompareExchange = codes "compare_exchange"
operation_words FetchAdd = codes "fetch_add"
operation_words FetchSub = codes "fetch_sub"
operation_words FetchAnd = codes "fetch_and"
operation_words FetchOr = codes "fetch_or"
operation_words FetchXor = codes "fetch_xor"
operation_words FetchNand = codes "fetch_nand"
operation_words AddFetch = codes "add_fetch"
operation_words SubFetch = codes "sub_fetch"
operation_words AndFetch = codes "and_fetch"
operation_words OrFetch = codes "or_fetch"
operation_words XorFetch = codes "xor_fetch"
operation_words NandFetch = codes "nand_fetch"

-- `__atomic_`, the operation's words, `_`, and the digits of the size
abbrev pub name_of : SizedOp → ℕ → List ℕ
name_of op size = codes "__atomic_" ++ (operation_words op ++ (codes "_" ++ size_digits size))

-- the text is the name of the operation on objects of this size
abbrev pub IsSizedName : List ℕ → SizedOp → ℕ → Type 0
IsSizedName text op size = (is_size size ≡ true) × (text ≡ name_of op size)

-- ---- how a name is read

abbrev pub operations : List SizedOp
operations = Load ∷ Store ∷ Exchange ∷ CompareExchange ∷ FetchAdd ∷ FetchSub ∷ FetchAnd ∷ FetchOr ∷ FetchXor ∷ FetchNand ∷ AddFetch ∷ SubFetch ∷ AndFetch ∷ OrFetch ∷ XorFetch ∷ NandFetch ∷ []

-- the operation that words stand for
unfoldable pub operation_of_words : List ℕ → Option SizedOp
operation_of_words words = among (rows_by operation_words operations) words

-- what stands before one of these sizes, and the size; none where the text ends with none of them
abbrev pub split_by : List ℕ → List ℕ → Option (List ℕ × ℕ)
split_by [] text = None
split_by (size ∷ more) text = let rest = length text - length (codes "_" ++ size_digits size) in
    if bytes_eq (drop rest text) (codes "_" ++ size_digits size) then Some (take rest text, size) else split_by more text

unfoldable pub split_size : List ℕ → Option (List ℕ × ℕ)
split_size text = split_by sizes text

abbrev pub sized : ℕ → Option SizedOp → Option (SizedOp × ℕ)
sized size None = None
sized size (Some op) = Some (op, size)

abbrev pub operation_and_size : Option (List ℕ × ℕ) → Option (SizedOp × ℕ)
operation_and_size None = None
operation_and_size (Some (words, size)) = sized size (operation_of_words words)

-- the operation and the size of a name
abbrev pub reading_of : List ℕ → Option (SizedOp × ℕ)
reading_of text = if bytes_eq (take 9 text) (codes "__atomic_") then operation_and_size (split_size (drop 9 text)) else None
