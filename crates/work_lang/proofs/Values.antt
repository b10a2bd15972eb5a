-- Words that were read as kinds.
use Rattle.std.proofs.Common.{◌≡◌, List, ℕ, Option, Some, None, Ok, sym, ap, ◌∙◌}
use Rattle.op_table.specs.declared.kind.Kind.{Kind}
use Rattle.op_table.specs.Kind.{IsKind}
use Rattle.op_table.specs.Words.{kind_of_word}
use Rattle.op_table.proofs.WordTables.{kind_has_its_words}
use Rattle.line_words.specs.Cursor.{Cursor}
use Rattle.work_lang.specs.declared.fault.Cause.{Cause}
use Rattle.work_lang.specs.Slips.{need_at}
use Rattle.work_lang.proofs.Steps.{ok_is, there}

pub kind_is_one : (w : List ℕ) (kind : Kind) → kind_of_word w ≡ Some kind → IsKind kind
kind_is_one w kind e = (kind_has_its_words w kind e).0

-- a word that was needed as a kind's
pub need_kind : (c : Cursor) (why : Cause) (found : Option Kind) (w : List ℕ) (kind : Kind) → found ≡ kind_of_word w → need_at c why found ≡ Ok kind → IsKind kind
unfolding need_at
need_kind c why None w kind e h = absurd cc
need_kind c why (Some x) w kind e h = kind_is_one w kind (sym e ∙ ap (λ (k : Kind). there k) (ok_is x kind h))
