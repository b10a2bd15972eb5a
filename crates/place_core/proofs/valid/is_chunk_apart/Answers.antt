use Rattle.std.proofs.Common.{◌≡◌, ℕ, List, sym, ◌∙◌, subst}
use Rattle.std.specs.List.Sorted.{IsPermutation}
use Rattle.std.proofs.lemmas.List.Sorted.{All-permutation, IsPermutation-sym}
use Rattle.place_core.specs.Validity.{IsSpan, spans_of}
use Rattle.place_core.proofs.ShapeTests.{row_tells, all_spans}
use Rattle.place_core.proofs.Chunks.{filled_is, free_of_moved}
use Rattle.place_core.proofs.valid.is_chunk_apart.Goals as goal

-- sorting only moves the spans
pub are_free-requires-clause-spans : goal.are_free-requires-clause-spans
are_free-requires-clause-spans c =
    All-permutation IsSpan c.put_spans.new.spans c.sort_unstable.new.self c.sort_unstable.ensures.permutation
    (all_spans c.args.shape.now c.requires.sized c.args.chunk.now c.requires.chunk c.put_spans.new.spans c.sort_unstable.new.self c.put_spans.ensures.same c.put_spans.ensures.filled c.sort_unstable.ensures.permutation c.sort_unstable.ensures.sorted)

pub returns-then-are_in_row : goal.returns-then-are_in_row
returns-then-are_in_row c =
    let t = row_tells c.args.shape.now c.requires.sized c.args.chunk.now c.requires.chunk c.put_spans.new.spans c.sort_unstable.new.self c.put_spans.ensures.same c.put_spans.ensures.filled c.sort_unstable.ensures.permutation c.sort_unstable.ensures.sorted in
    let are : c.put_spans.new.spans ≡ spans_of c.args.chunk.now = filled_is c.put_spans.new.spans c.args.chunk.now c.put_spans.ensures.same c.put_spans.ensures.filled in
    let moved : IsPermutation (spans_of c.args.chunk.now) c.sort_unstable.new.self = subst (λ (xs : List ℕ). IsPermutation xs c.sort_unstable.new.self) are c.sort_unstable.ensures.permutation in (
      (λ yes. (t.0 (sym c.are_in_row.ensures ∙ c.if-are_in_row.true), free_of_moved c.args.others.now c.sort_unstable.new.self (spans_of c.args.chunk.now) (IsPermutation-sym (spans_of c.args.chunk.now) c.sort_unstable.new.self moved) (c.are_free.ensures.0 yes))),
      (λ h. c.are_free.ensures.1 (free_of_moved c.args.others.now (spans_of c.args.chunk.now) c.sort_unstable.new.self moved h.1)),
    )

pub returns-else-are_in_row : goal.returns-else-are_in_row
returns-else-are_in_row c =
    let t = row_tells c.args.shape.now c.requires.sized c.args.chunk.now c.requires.chunk c.put_spans.new.spans c.sort_unstable.new.self c.put_spans.ensures.same c.put_spans.ensures.filled c.sort_unstable.ensures.permutation c.sort_unstable.ensures.sorted in
    ((λ yes. let no = c.if-are_in_row.false in absurd cc), (λ h. c.are_in_row.ensures ∙ t.1 h.0))
