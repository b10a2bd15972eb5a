use Rattle.std.proofs.Common.{◌↔◌, ◌≡◌, true, List, ℕ, sym, ◌∙◌, subst}
use Rattle.place_core.specs.Validity.{IsFree, IsBehind, is_before}
use Rattle.place_core.proofs.Chunks.{search_tells}
use Rattle.place_core.proofs.valid.is_free.Goals as goal

pub returns-then-is_behind : goal.returns-then-is_behind
returns-then-is_behind c =
    let t = search_tells c.args.row.now c.requires.spans c.requires.row c.args.span c.requires.span c.in-Err.at c.in-Err.ensures.position in
    let halves : IsFree c.args.span c.args.row.now ↔ (IsBehind c.args.span c.split_at.result.0.now × (is_before c.args.span c.split_at.result.1.now ≡ true)) =
    subst (λ (z : List ℕ × List ℕ). IsFree c.args.span c.args.row.now ↔ (IsBehind c.args.span z.0 × (is_before c.args.span z.1 ≡ true))) (λ i. (sym c.split_at.ensures.front i, sym c.split_at.ensures.back i)) t in
    ((λ yes. halves.1 (c.is_behind.ensures.0 c.if-is_behind.true, sym c.is_before.ensures ∙ yes)), (λ free. c.is_before.ensures ∙ (halves.0 free).1))

pub returns-else-is_behind : goal.returns-else-is_behind
returns-else-is_behind c =
    let t = search_tells c.args.row.now c.requires.spans c.requires.row c.args.span c.requires.span c.in-Err.at c.in-Err.ensures.position in
    ((λ yes. let no = c.if-is_behind.false in absurd cc), (λ free. c.is_behind.ensures.1 (subst (IsBehind c.args.span) (sym c.split_at.ensures.front) (t.0 free).0)))
