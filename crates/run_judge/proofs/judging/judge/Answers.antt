-- Either a state shows the report, or none does that was reached.
use Rattle.std.proofs.Common.{◌≡◌, true, false, map, refl, sym, ◌∙◌}
use Rattle.place_core.specs.Pieces.{script_lines}
use Rattle.run_judge.specs.Reports.{items_of}
use Rattle.run_judge.proofs.Judged.{has_of_can, report_of_state, length_there, IsLooking-more, IsLooking-ends, empty_where_none}
use Rattle.run_judge.proofs.judging.judge.Goals as goal

pub returns-then-not-has_replies-clause-ok : goal.returns-then-not-has_replies-clause-ok
returns-then-not-has_replies-clause-ok c = (
  λ no. let clash : false ≡ true = no in absurd cc,
  λ can. sym c.if-not-has_replies.true ∙ c.has_replies.ensures.1 (has_of_can c.args.shape.now (map script_lines c.args.scripts.now) (items_of c.args.replies.now) c.args.last.now.items can),
)

pub shows-requires-clause-cells : goal.shows-requires-clause-cells
shows-requires-clause-cells c = length_there c.args.shape.now (map script_lines c.args.scripts.now) 0 (items_of c.args.replies.now) c.in-Some.state (c.states.invariant.states c.in-Some.state c.in-Some.ensures.member)

pub returns-then-shows-clause-ok : goal.returns-then-shows-clause-ok
returns-then-shows-clause-ok c = (
  λ yes'. report_of_state c.args.shape.now (map script_lines c.args.scripts.now) (items_of c.args.replies.now) c.args.last.now.items
      (c.has_replies.ensures.0 c.if-not-has_replies.false) c.in-Some.state (c.states.invariant.states c.in-Some.state c.in-Some.ensures.member) (c.shows.ensures.0 c.if-shows.true),
  λ can. refl,
)

pub states-preserved : goal.states-preserved
states-preserved c = IsLooking-more c.args.shape.now (map script_lines c.args.scripts.now) (items_of c.args.replies.now) c.args.last.now.items c.states.states c.pop_first.new.self c.in-Some.state
    c.states.invariant c.in-Some.ensures.updates (λ shown. let clash : false ≡ true = sym c.if-shows.false ∙ c.shows.ensures.1 shown in cc)

pub returns-clause-ok : goal.returns-clause-ok
returns-clause-ok c = (
  λ no. let clash : false ≡ true = no in absurd cc,
  λ can. absurd (IsLooking-ends c.args.shape.now (map script_lines c.args.scripts.now) (items_of c.args.replies.now) c.args.last.now.items c.states.states c.states.invariant
      (empty_where_none c.states.states c.in_default.ensures.variant.1) can),
)
