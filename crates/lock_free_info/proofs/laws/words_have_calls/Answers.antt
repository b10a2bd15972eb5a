use Rattle.lock_free_info.proofs.WordCalls.{words_have_calls}
use Rattle.lock_free_info.proofs.laws.words_have_calls.Goals as goal

pub returns : goal.returns
returns c = words_have_calls
