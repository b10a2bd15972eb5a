use Rattle.work_lang.proofs.Values.{need_kind}
use Rattle.work_lang.proofs.item.object_item.Goals as goal

-- a word that was read as a kind is one of a kind
pub read_value-requires : goal.read_value-requires
read_value-requires c = need_kind _ _ _ c.in_ok-text-2.text.now _ c.kind_of_word.ensures c.in_ok-kind.ensures
