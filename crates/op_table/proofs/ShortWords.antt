-- The words of the tables are short, and have no spaces.
use Rattle.std.proofs.Common.{◌≡◌, Bool, true, false, ◌&&◌, ltb, leb, ℕ, List, length, refl, ltb-true, leb-true}
use Rattle.std.specs.List.{list_all}
use Rattle.std.proofs.lemmas.Bool.{and_parts}
use Rattle.op_table.specs.declared.kind.Width.{Width}
use Rattle.op_table.specs.declared.kind.Width.TheVariants.{W1, W8, W16, W32, W64, W128}
use Rattle.op_table.specs.declared.kind.Class.{Class}
use Rattle.op_table.specs.declared.kind.Class.TheVariants as class
use Rattle.op_table.specs.declared.order.Order.{Order}
use Rattle.op_table.specs.declared.order.Order.TheVariants.{Relaxed, Acquire, Release, AcqRel, SeqCst}
use Rattle.op_table.specs.declared.words.Operation.{Operation}
use Rattle.op_table.specs.declared.words.Operation.TheVariants.{Load}
use Rattle.op_table.specs.Kind.{IsOfClass}
use Rattle.op_table.specs.Words.{kind_word, operation_word}
use Rattle.op_table.specs.Orders.{order_word}
use Rattle.op_table.specs.Laws.{is_word_byte, IsWordUpTo, KindWordIsShort, OperationWordIsShort, OrderWordIsShort}

abbrev is_word_up_to : ℕ → List ℕ → Bool
is_word_up_to most text = ltb 0 (length text) && (leb (length text) most && list_all is_word_byte text)

tested : (most : ℕ) (text : List ℕ) → is_word_up_to most text ≡ true → IsWordUpTo most text
tested most text is =
    let outer = and_parts _ _ is in
    let inner = and_parts _ _ outer.1 in
    record { some = ltb-true _ _ outer.0; short = leb-true _ _ inner.0; plain = inner.1 }

kind_tests : (c : Class) (signed : Bool) (width : Width) → IsOfClass c (record { width = width; signed = signed; class = c }) → is_word_up_to 4 (kind_word (record { width = width; signed = signed; class = c })) ≡ true
kind_tests class.Int signed W1 is = absurd (is refl)
kind_tests class.Int true W8 is = refl
kind_tests class.Int true W16 is = refl
kind_tests class.Int true W32 is = refl
kind_tests class.Int true W64 is = refl
kind_tests class.Int true W128 is = refl
kind_tests class.Int false W8 is = refl
kind_tests class.Int false W16 is = refl
kind_tests class.Int false W32 is = refl
kind_tests class.Int false W64 is = refl
kind_tests class.Int false W128 is = refl
kind_tests class.Bool signed width is = refl
kind_tests class.Ptr signed width is = refl

pub kind_word_is_short : KindWordIsShort
kind_word_is_short kind is = tested 4 (kind_word kind) (kind_tests kind.class kind.signed kind.width is)

operation_tests : (op : Operation) → is_word_up_to 21 (operation_word op) ≡ true
operation_tests Load = refl
operation_tests _ = refl

pub operation_word_is_short : OperationWordIsShort
operation_word_is_short op = tested 21 (operation_word op) (operation_tests op)

order_tests : (order : Order) → is_word_up_to 7 (order_word order) ≡ true
order_tests Relaxed = refl
order_tests Acquire = refl
order_tests Release = refl
order_tests AcqRel = refl
order_tests SeqCst = refl

pub order_word_is_short : OrderWordIsShort
order_word_is_short order = tested 7 (order_word order) (order_tests order)
