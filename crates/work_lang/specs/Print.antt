-- Printing a call line.
use Rattle.std.specs.Prelude.{ℕ, List, [], ◌∷◌, ◌++◌, map, slice_get, Option, Some, None, if◌then◌else◌}
use Rattle.std.specs.List.{join_with_byte}
use Rattle.op_table.specs.declared.kind.Kind.{Kind}
use Rattle.op_table.specs.declared.call.Call.{Call}
use Rattle.op_table.specs.declared.order.Order.{Order}
use Rattle.op_table.specs.Value.{value_text}
use Rattle.op_table.specs.Words.{call_word}
use Rattle.op_table.specs.Orders.{order_word}
use Rattle.place_core.specs.declared.name.Declared.{Declared}
use Rattle.place_core.specs.declared.script.Line.{Line}
use Rattle.work_lang.specs.Operands.{Operand, operands_of}
use Rattle.work_lang.specs.CallOrders.{orders_of, are_seq_cst}

abbrev pub operand_text : Operand → List ℕ
operand_text o = value_text o.kind o.value

-- the texts of a call's operands
abbrev pub operand_words : Kind → Call → List (List ℕ)
operand_words kind call = map operand_text (operands_of kind call)

-- the words of orders; where all are sequentially consistent they are left out
abbrev pub order_words : List Order → List (List ℕ)
order_words orders = if are_seq_cst orders then [] else map order_word orders

-- a call's word, its operands and its orders
abbrev pub words_with : Kind → Line → List (List ℕ)
words_with kind line = call_word kind line.call ∷ (operand_words kind line.call ++ order_words (orders_of line))

abbrev pub words_on : Option Declared → Line → List (List ℕ)
words_on None line = []
words_on (Some d) line = d.name ∷ words_with d.kind line

-- the words of a call line
abbrev pub call_words : List Declared → Line → List (List ℕ)
call_words objects line = words_on (slice_get objects line.object) line

-- the canonical call line, without its end
unfoldable pub call_line : List Declared → Line → List ℕ
call_line objects line = join_with_byte 32 (call_words objects line)
