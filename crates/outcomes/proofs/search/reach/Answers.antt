-- Where the search begins, where it goes on, and what it comes to.
use Rattle.std.proofs.Common.{◌≡◌, Err, ap, arith, inr}
use Rattle.outcomes.specs.declared.fault.SearchFault.TheVariants.{TooManyStates}
use Rattle.outcomes.proofs.search.reach.Goals as goal
use Rattle.outcomes.proofs.ReachLemmas.{one_more, empty_where_none, Reached-keeps, ReachesMore-none, IsSearching-begins, IsSearching-more, ReachesMore-over, HasReached-ends}

pub returns-then-limit-eq0-clause-many : goal.returns-then-limit-eq0-clause-many
returns-then-limit-eq0-clause-many g c = λ e. ReachesMore-none (g.M.Stepping.choices c.args.machine.now) (g.M.Stepping.after c.args.machine.now) c.args.start g.M.State.Ord.cmp c.args.limit c.if-limit-eq0.true

pub loop-state-init : goal.loop-state-init
loop-state-init g c = IsSearching-begins (g.M.Stepping.choices c.args.machine.now) (g.M.Stepping.after c.args.machine.now) c.args.start g.M.State.Ord.cmp g.met.M.State.Ord.total g.met.M.Stepping.same c.args.limit c.new-done.result c.new-left.result c.insert.new.self
    c.new-done.ensures.empty c.new-left.ensures.empty c.in-Ok.ensures.updates (one_more _ _ _ c.in-Ok.ensures.len) (omega arith)

pub add_next-requires-clause-state : goal.add_next-requires-clause-state
add_next-requires-clause-state g c = Reached-keeps (g.M.Stepping.choices c.args.machine.now) (g.M.Stepping.after c.args.machine.now) c.args.start (g.M.Stepping.is_state c.args.machine.now) c.requires
    (λ s k h below. g.met.M.Stepping.stays c.args.machine.now s k h below) c.in-Some.state (c.loop-state.invariant.reached c.in-Some.state (inr c.in-Some.ensures.member))

pub returns-in-Err-clause-many : goal.returns-in-Err-clause-many
returns-in-Err-clause-many g c = λ e. absurd (cc)

pub returns-in-Err-add_next-clause-many : goal.returns-in-Err-add_next-clause-many
returns-in-Err-add_next-clause-many g c = λ many. ReachesMore-over (g.M.Stepping.choices c.args.machine.now) (g.M.Stepping.after c.args.machine.now) c.args.start g.M.State.Ord.cmp g.met.M.State.Ord.total g.met.M.Stepping.same c.args.limit c.loop-state.done c.loop-state.left c.pop_first.new.self c.add_next.new.left c.loop-state.done c.in-Some.state
    c.loop-state.invariant c.in-Some.ensures.member c.in-Some.ensures.updates c.in-Err-add_next.ensures.adds (let same : c.in-Err-add_next.fault ≡ TooManyStates = cc in c.in-Err-add_next.ensures.over (ap Err same))

pub loop-state-preserved : goal.loop-state-preserved
loop-state-preserved g c = IsSearching-more (g.M.Stepping.choices c.args.machine.now) (g.M.Stepping.after c.args.machine.now) c.args.start g.M.State.Ord.cmp g.met.M.State.Ord.total g.met.M.Stepping.same c.args.limit c.loop-state.done c.loop-state.left c.pop_first.new.self c.add_next.new.left c.insert-in-Some.new.self c.in-Some.state
    c.loop-state.invariant c.in-Some.ensures.member c.in-Some.ensures.updates c.in-Ok-add_next.ensures.adds c.in-Ok-add_next.ensures.all c.in-Ok-insert.ensures.updates
    (one_more _ _ _ c.in-Ok-insert.ensures.len) c.in-Ok-add_next.ensures.within

pub returns-clause-ok : goal.returns-clause-ok
returns-clause-ok g c = HasReached-ends (g.M.Stepping.choices c.args.machine.now) (g.M.Stepping.after c.args.machine.now) c.args.start g.M.State.Ord.cmp g.met.M.State.Ord.total g.met.M.Stepping.same c.args.limit c.loop-state.done c.loop-state.left c.loop-state.invariant (empty_where_none c.loop-state.left c.in_default.ensures.variant.1)
