use Rattle.seat_views.proofs.Ties.{tie, op_given, store_given}
use Rattle.seat_views.proofs.lanes.op_as.Goals as goal

pub load-requires : goal.load-requires
load-requires g c = op_given _ _ _ _ _ (tie _ _ _ _ _ c.arena.view_is c.arena.invariant.0 c.arena.invariant.1 c.arena.invariant.2 c.requires.arena) _ _ _ g.J.Asking.ask _ _ _ _ _ _ _ c.requires.asked c.in-Load.is _ c.requires.object c.requires.kind c.requires.serves c.requires.pass

pub swap-requires : goal.swap-requires
swap-requires g c = op_given _ _ _ _ _ (tie _ _ _ _ _ c.arena.view_is c.arena.invariant.0 c.arena.invariant.1 c.arena.invariant.2 c.requires.arena) _ _ _ g.J.Asking.ask _ _ _ _ _ _ _ c.requires.asked c.in-Swap.is _ c.requires.object c.requires.kind c.requires.serves c.requires.pass

pub compare_exchange-requires : goal.compare_exchange-requires
compare_exchange-requires g c = op_given _ _ _ _ _ (tie _ _ _ _ _ c.arena.view_is c.arena.invariant.0 c.arena.invariant.1 c.arena.invariant.2 c.requires.arena) _ _ _ g.J.Asking.ask _ _ _ _ _ _ _ c.requires.asked c.in-Cas.is _ c.requires.object c.requires.kind c.requires.serves c.requires.pass

pub fetch_add-requires : goal.fetch_add-requires
fetch_add-requires g c = op_given _ _ _ _ _ (tie _ _ _ _ _ c.arena.view_is c.arena.invariant.0 c.arena.invariant.1 c.arena.invariant.2 c.requires.arena) _ _ _ g.J.Asking.ask _ _ _ _ _ _ _ c.requires.asked c.in-Add.is _ c.requires.object c.requires.kind c.requires.serves c.requires.pass

pub fetch_sub-requires : goal.fetch_sub-requires
fetch_sub-requires g c = op_given _ _ _ _ _ (tie _ _ _ _ _ c.arena.view_is c.arena.invariant.0 c.arena.invariant.1 c.arena.invariant.2 c.requires.arena) _ _ _ g.J.Asking.ask _ _ _ _ _ _ _ c.requires.asked c.in-Sub.is _ c.requires.object c.requires.kind c.requires.serves c.requires.pass

pub fetch_and-requires : goal.fetch_and-requires
fetch_and-requires g c = op_given _ _ _ _ _ (tie _ _ _ _ _ c.arena.view_is c.arena.invariant.0 c.arena.invariant.1 c.arena.invariant.2 c.requires.arena) _ _ _ g.J.Asking.ask _ _ _ _ _ _ _ c.requires.asked c.in-And.is _ c.requires.object c.requires.kind c.requires.serves c.requires.pass

pub fetch_or-requires : goal.fetch_or-requires
fetch_or-requires g c = op_given _ _ _ _ _ (tie _ _ _ _ _ c.arena.view_is c.arena.invariant.0 c.arena.invariant.1 c.arena.invariant.2 c.requires.arena) _ _ _ g.J.Asking.ask _ _ _ _ _ _ _ c.requires.asked c.in-Or.is _ c.requires.object c.requires.kind c.requires.serves c.requires.pass

pub fetch_xor-requires : goal.fetch_xor-requires
fetch_xor-requires g c = op_given _ _ _ _ _ (tie _ _ _ _ _ c.arena.view_is c.arena.invariant.0 c.arena.invariant.1 c.arena.invariant.2 c.requires.arena) _ _ _ g.J.Asking.ask _ _ _ _ _ _ _ c.requires.asked c.in-Xor.is _ c.requires.object c.requires.kind c.requires.serves c.requires.pass

pub fetch_max-requires : goal.fetch_max-requires
fetch_max-requires g c = op_given _ _ _ _ _ (tie _ _ _ _ _ c.arena.view_is c.arena.invariant.0 c.arena.invariant.1 c.arena.invariant.2 c.requires.arena) _ _ _ g.J.Asking.ask _ _ _ _ _ _ _ c.requires.asked c.in-Max.is _ c.requires.object c.requires.kind c.requires.serves c.requires.pass

pub fetch_min-requires : goal.fetch_min-requires
fetch_min-requires g c = op_given _ _ _ _ _ (tie _ _ _ _ _ c.arena.view_is c.arena.invariant.0 c.arena.invariant.1 c.arena.invariant.2 c.requires.arena) _ _ _ g.J.Asking.ask _ _ _ _ _ _ _ c.requires.asked c.in-Min.is _ c.requires.object c.requires.kind c.requires.serves c.requires.pass

pub store-requires : goal.store-requires
store-requires g c = store_given _ _ _ _ _ (tie _ _ _ _ _ c.arena.view_is c.arena.invariant.0 c.arena.invariant.1 c.arena.invariant.2 c.requires.arena) _ _ _ g.J.Asking.ask _ _ _ _ _ _ _ c.requires.asked c.in-Store.is _ c.requires.object c.requires.kind c.requires.serves c.requires.pass
