use Rattle.std.proofs.Common.{◌≡◌, ℕ, ◌≤◌, List, length, sym, ◌∙◌, arith}
use Rattle.op_table.specs.Words.{among, of_lengths, operation_rows, operation_of_word}
use Rattle.op_table.proofs.Tables.{among_of_lengths}
use Rattle.op_table.proofs.words.operation_of_word.Goals as goal

by_length : (low high : ℕ) (w : List ℕ) → low ≤ length w → length w ≤ high → among (of_lengths low high operation_rows) w ≡ operation_of_word w
unfolding operation_of_word
by_length low high w above below = sym (among_of_lengths low high operation_rows w above below)

pub returns-then-len-le3 : goal.returns-then-len-le3
returns-then-len-le3 c = c.of_three.ensures ∙ by_length 0 3 c.args.word.now (omega arith) (omega arith)

pub returns-then-len-le8 : goal.returns-then-len-le8
returns-then-len-le8 c = c.of_eight.ensures ∙ by_length 4 8 c.args.word.now (omega arith) (omega arith)

pub returns-then-len-le9 : goal.returns-then-len-le9
returns-then-len-le9 c = c.of_nine.ensures ∙ by_length 9 9 c.args.word.now (omega arith) (omega arith)

pub returns-then-len-le21 : goal.returns-then-len-le21
returns-then-len-le21 c = c.of_more.ensures ∙ by_length 10 21 c.args.word.now (omega arith) (omega arith)

-- no word is longer
pub returns-else-len-le21 : goal.returns-else-len-le21
returns-else-len-le21 c = by_length 22 (length c.args.word.now) c.args.word.now (omega arith) (omega arith)
