use Rattle.any_size.proofs.CallParts.{kept_made}
use Rattle.any_size.proofs.calls.held_call.Goals as goal

pub returns-in-None : goal.returns-in-None
returns-in-None c = kept_made _ _ _ _ _ _ _ _ c.held_value-found.ensures c.in-None.ensures c.release_as-in-None.ensures c.reply-in-None.ensures
