-- One more number is that of the next place.
use Rattle.std.proofs.Common.{ℕ, List, arith, map, sym, ◌∙◌, ap, ◌++◌, ◌∷◌, []}
use Rattle.std.specs.List.{range_with_len}
use Rattle.std.proofs.lemmas.List.FromFn.{map-range_with_len_more}
use Rattle.place_core.specs.Pieces.{script_lines}
use Rattle.run_outcomes.specs.Outcomes.{cell_at}
use Rattle.run_outcomes.proofs.ends.outcome_at.Goals as goal

pub loop-i-preserved : goal.loop-i-preserved
loop-i-preserved c =
    let f : ℕ → ℕ = cell_at c.args.shape.now (map script_lines c.args.scripts.now) c.args.state.now in
    c.in_ok-push.ensures
    ∙ ap (λ (l : List ℕ). l ++ c.cell_at.result ∷ []) c.loop-i.invariant
    ∙ ap (λ (v : ℕ). map f (range_with_len 0 c.loop-i.i) ++ v ∷ []) c.cell_at.ensures
    ∙ sym (map-range_with_len_more f 0 c.loop-i.i c.loop-i.i (omega arith))
