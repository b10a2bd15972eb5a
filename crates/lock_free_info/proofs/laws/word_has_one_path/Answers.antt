use Rattle.lock_free_info.proofs.PathClasses.{word_has_one_path}
use Rattle.lock_free_info.proofs.laws.word_has_one_path.Goals as goal

pub returns : goal.returns
returns c = word_has_one_path
