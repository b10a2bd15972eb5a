use Rattle.atomic_types.proofs.ServedCalls.{by_turns, by_a_try}
use Rattle.atomic_types.proofs.served.by_tries.Goals as goal

pub returns-in-CasWeak : goal.returns-in-CasWeak
returns-in-CasWeak g c = by_a_try _ _ _ _ _ _ _ _ _ c.in-Some.ensures.0 c.in-CasWeak.is c.requires.loops c.cas_weak.ensures

pub returns-in_default-call : goal.returns-in_default-call
returns-in_default-call g c = by_turns _ _ _ _ _ _ _ c.in-Some.ensures.0 c.requires.loops c.in_default-call.not-CasWeak c.turn_until.ensures
