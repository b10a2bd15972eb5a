use Rattle.std.proofs.Common.{arith, refl, sym, subst, ap, ◌∙◌, get_or}
use Rattle.sized_calls.specs.Regions.{RegionState, IsRegion}
use Rattle.sized_calls.proofs.Opening.{other_size, other_value, other_order, none_left, few}
use Rattle.sized_calls.proofs.region.Region.object_for.Goals as goal

pub returns-then-index-call : goal.returns-then-index-call
returns-then-index-call c =
    let read = c.index.ensures ∙ ap (λ (s : RegionState). get_or s.cells c.in-Some.number c.index.result.now) c.self.view_is in
    other_size c.args.self.now (subst IsRegion c.self.view_is c.self.invariant) c.args.call.now c.in-Some.number c.in-Some.ensures c.index.result.now read c.if-index-call.true

pub returns-then-not-call_fits : goal.returns-then-not-call_fits
returns-then-not-call_fits c =
    let read = c.index.ensures ∙ ap (λ (s : RegionState). get_or s.cells c.in-Some.number c.index.result.now) c.self.view_is in
    other_value c.args.self.now (subst IsRegion c.self.view_is c.self.invariant) c.args.call.now c.in-Some.number c.in-Some.ensures c.index.result.now read
    c.if-index-call.false c.kind_of_size.result c.call.result c.kind_of_size.ensures c.call.ensures (λ fits. let clash = c.if-not-call_fits.ensures.1 fits in absurd cc)

pub returns-then-not-accepts : goal.returns-then-not-accepts
returns-then-not-accepts c =
    let read = c.index.ensures ∙ ap (λ (s : RegionState). get_or s.cells c.in-Some.number c.index.result.now) c.self.view_is in
    other_order c.args.self.now (subst IsRegion c.self.view_is c.self.invariant) c.args.call.now c.in-Some.number c.in-Some.ensures c.index.result.now read
    c.if-index-call.false c.kind_of_size.result c.call.result c.kind_of_size.ensures c.call.ensures (c.if-not-call_fits.ensures.0 refl) (sym c.if-not-accepts.ensures)

pub overflow_cast-result : goal.overflow_cast-result
overflow_cast-result c =
    let lt = few c.args.self.now (subst IsRegion c.self.view_is c.self.invariant) c.args.call.now c.in-Some.number c.in-Some.ensures in
    omega (arith, lt)

pub returns : goal.returns
returns c =
    let read = c.index.ensures ∙ ap (λ (s : RegionState). get_or s.cells c.in-Some.number c.index.result.now) c.self.view_is in (
      none_left c.args.self.now (subst IsRegion c.self.view_is c.self.invariant) c.args.call.now c.in-Some.number c.in-Some.ensures c.index.result.now read
          c.if-index-call.false c.kind_of_size.result c.call.result c.kind_of_size.ensures c.call.ensures (c.if-not-call_fits.ensures.0 refl) (sym c.if-not-accepts.ensures),
      c.in-Some.ensures,
    )
