use Rattle.any_size.proofs.WholeLaws.{reply_is_whole}
use Rattle.any_size.proofs.laws.reply_is_whole.Goals as goal

pub returns : goal.returns
returns c = reply_is_whole
