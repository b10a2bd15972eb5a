use Rattle.std.proofs.Common.{◌≡◌, ◌++◌, refl, sym, ◌∙◌, subst}
use Rattle.std.specs.List.{AllByRecursion}
use Rattle.std.proofs.lemmas.Bool.{eqb-true}
use Rattle.place_core.specs.Validity.{IsObject, AllApart}
use Rattle.place_core.proofs.Chunks.{rising_apart, halves_are, none_apart, all_rest, split_apart, join_apart}
use Rattle.place_core.proofs.valid.are_apart.Goals as goal

pub returns-then-are_rising : goal.returns-then-are_rising
returns-then-are_rising c = ((λ yes. rising_apart c.args.shape.now c.requires.sized c.args.objects.now c.requires.objects (sym c.are_rising.ensures ∙ c.if-are_rising.true)), (λ apart. refl))

pub returns-then-not-is_chunk_apart : goal.returns-then-not-is_chunk_apart
returns-then-not-is_chunk_apart c =
    let chunk = c.split_at.result.0.now in
    let others = c.split_at.result.1.now in
    let whole : chunk ++ others ≡ c.chunks.rest.now = halves_are c.min.result c.chunks.rest.now chunk others c.split_at.ensures.front c.split_at.ensures.back in
    ((λ yes. absurd cc), (λ apart. sym c.if-not-is_chunk_apart.true ∙ c.is_chunk_apart.ensures.1 (split_apart chunk others (subst AllApart (sym whole) (c.chunks.invariant.apart.1 apart))).0))

pub chunks-preserved : goal.chunks-preserved
chunks-preserved c =
    let chunk = c.split_at.result.0.now in
    let others = c.split_at.result.1.now in
    let whole : chunk ++ others ≡ c.chunks.rest.now = halves_are c.min.result c.chunks.rest.now chunk others c.split_at.ensures.front c.split_at.ensures.back in
    record {
      objects = subst (AllByRecursion (IsObject c.args.shape.now)) (sym c.split_at.ensures.back) (all_rest (IsObject c.args.shape.now) c.min.result c.chunks.rest.now c.chunks.invariant.objects);
      apart = (
        (λ apart. c.chunks.invariant.apart.0 (subst AllApart whole (join_apart chunk others (c.is_chunk_apart.ensures.0 c.if-not-is_chunk_apart.false) apart))),
        (λ apart. (split_apart chunk others (subst AllApart (sym whole) (c.chunks.invariant.apart.1 apart))).1),
      );
    }

pub returns : goal.returns
returns c = ((λ yes. c.chunks.invariant.apart.0 (none_apart c.chunks.rest.now (eqb-true _ _ (sym c.is_empty.ensures ∙ c.chunks-test.false)))), (λ apart. refl))
