-- Laws of texts, words and the table of operations.
use Rattle.std.specs.Prelude.{◌≡◌, ◌⊎◌, ℕ, ◌<◌, ◌≤◌, List, length, Bool, true, false, codes, Some, ◌&&◌, nat_lt, Ok}
use Rattle.std.specs.List.{list_all}
use Rattle.op_table.specs.declared.kind.Kind.{Kind}
use Rattle.op_table.specs.declared.call.Call.{Call}
use Rattle.op_table.specs.declared.kind.Width.TheVariants.{W64}
use Rattle.op_table.specs.declared.order.Order.{Order}
use Rattle.op_table.specs.declared.words.Operation.{Operation}
use Rattle.op_table.specs.Kind.{values_of, IsKind}
use Rattle.op_table.specs.Value.{parsed_value, value_text}
use Rattle.op_table.specs.Call.{after_of, answer_of, CallFits, ReplyFits}
use Rattle.op_table.specs.CallTests.{is_load, expects_another, has_failed, does_write}
use Rattle.op_table.specs.Words.{integer, kind_word, kind_of_word, operation_word, operation_of_word, has_operation, operation_of}
use Rattle.op_table.specs.Orders.{order_word, order_of_word}

-- what is printed is read again
abbrev pub PrintedIsRead : Type 0
PrintedIsRead = (kind : Kind) (v : ℕ) → IsKind kind → v < values_of kind → parsed_value kind (value_text kind v) ≡ Ok v

-- a value has no other text than the one that is printed
abbrev pub ValueHasOneText : Type 0
ValueHasOneText = (kind : Kind) (text : List ℕ) (v : ℕ) → IsKind kind → parsed_value kind text ≡ Ok v → text ≡ value_text kind v

-- what is read is a value of the kind
abbrev pub ReadIsValue : Type 0
ReadIsValue = (kind : Kind) (text : List ℕ) (v : ℕ) → IsKind kind → parsed_value kind text ≡ Ok v → v < values_of kind

-- a byte that may stand in a word: no space, no line feed, no other control
abbrev pub is_word_byte : ℕ → Bool
is_word_byte b = nat_lt 32 b && nat_lt b 127

-- a word of at most so many bytes
pub record IsWordUpTo (most : ℕ) (text : List ℕ) : Type 0 where
  pub some : 0 < length text
  pub short : length text ≤ most
  pub plain : list_all is_word_byte text ≡ true

-- the text of a value is a word of at most 40 bytes
abbrev pub ValueTextIsShort : Type 0
ValueTextIsShort = (kind : Kind) (v : ℕ) → IsKind kind → v < values_of kind → IsWordUpTo 40 (value_text kind v)

-- a call leaves a value of the kind
abbrev pub AfterFits : Type 0
AfterFits = (kind : Kind) (call : Call) (v : ℕ) → IsKind kind → CallFits kind call → v < values_of kind → after_of kind call v < values_of kind

-- a call replies with a value of the kind
abbrev pub AnswerFits : Type 0
AnswerFits = (kind : Kind) (call : Call) (v : ℕ) → IsKind kind → CallFits kind call → v < values_of kind → ReplyFits kind (answer_of kind call v)

-- a load keeps the value
abbrev pub LoadKeepsValue : Type 0
LoadKeepsValue = (kind : Kind) (call : Call) (v : ℕ) → is_load call ≡ true → after_of kind call v ≡ v

-- only an exchange that expects another value fails
abbrev pub OnlyExchangesFail : Type 0
OnlyExchangesFail = (kind : Kind) (call : Call) (v : ℕ) → has_failed (answer_of kind call v) ≡ true → expects_another call v ≡ true

-- a call that stores nothing keeps the value
abbrev pub UnwrittenKeepsValue : Type 0
UnwrittenKeepsValue = (kind : Kind) (call : Call) (v : ℕ) → does_write call (answer_of kind call v) ≡ false → after_of kind call v ≡ v

-- the word of an operation is read as that operation
abbrev pub OperationWordIsRead : Type 0
OperationWordIsRead = (op : Operation) → operation_of_word (operation_word op) ≡ Some op

-- an operation has no other word
abbrev pub OperationHasOneWord : Type 0
OperationHasOneWord = (w : List ℕ) (op : Operation) → operation_of_word w ≡ Some op → w ≡ operation_word op

-- a call that a kind has is an operation of the kind's class
abbrev pub CallHasOperation : Type 0
CallHasOperation = (kind : Kind) (call : Call) → IsKind kind → CallFits kind call → has_operation kind.class (operation_of kind call) ≡ true

-- the word of an order is read as that order
abbrev pub OrderWordIsRead : Type 0
OrderWordIsRead = (order : Order) → order_of_word (order_word order) ≡ Some order

-- an order has no other word
abbrev pub OrderHasOneWord : Type 0
OrderHasOneWord = (w : List ℕ) (order : Order) → order_of_word w ≡ Some order → w ≡ order_word order

-- the word of a kind is read as that kind
abbrev pub KindWordIsRead : Type 0
KindWordIsRead = (kind : Kind) → IsKind kind → kind_of_word (kind_word kind) ≡ Some kind

-- a kind has no other word than `isize` or `usize`, and what is read is a kind
abbrev pub KindHasItsWords : Type 0
KindHasItsWords = (w : List ℕ) (kind : Kind) → kind_of_word w ≡ Some kind → IsKind kind × ((w ≡ kind_word kind) ⊎ ((w ≡ codes "isize") × (kind ≡ integer true W64)) ⊎ ((w ≡ codes "usize") × (kind ≡ integer false W64)))

-- the words of the tables have at most 4, 21 and 7 bytes
abbrev pub KindWordIsShort : Type 0
KindWordIsShort = (kind : Kind) → IsKind kind → IsWordUpTo 4 (kind_word kind)

abbrev pub OperationWordIsShort : Type 0
OperationWordIsShort = (op : Operation) → IsWordUpTo 21 (operation_word op)

abbrev pub OrderWordIsShort : Type 0
OrderWordIsShort = (order : Order) → IsWordUpTo 7 (order_word order)
