use Rattle.place_core.proofs.Earning.{table_reply_is_not_spurious}
use Rattle.place_core.proofs.laws.changes.table_reply_is_not_spurious.Goals as goal

pub returns : goal.returns
returns c = table_reply_is_not_spurious
