-- Workers in two halves.
use Rattle.std.proofs.Common.{◌≡◌, List, [], ◌∷◌, ◌++◌, sym, subst}
use Rattle.place_core.specs.declared.shape.Shape.{Shape}
use Rattle.runner.specs.declared.worker.Keep.{Keep}
use Rattle.runner.specs.declared.worker.Worker.{Worker}
use Rattle.runner.specs.Scripts.{HaveRunTo}

both_run : (keep : Keep) (S : Shape) (xs ys us vs : List Worker) → HaveRunTo keep S xs us → HaveRunTo keep S ys vs → HaveRunTo keep S (xs ++ ys) (us ++ vs)
both_run keep S [] ys [] vs h k = k
both_run keep S [] ys (u ∷ us) vs h k = absurd h
both_run keep S (x ∷ xs) ys [] vs h k = absurd h
both_run keep S (x ∷ xs) ys (u ∷ us) vs h k = (h.0, both_run keep S xs ys us vs h.1 k)

pub halves_run : (keep : Keep) (S : Shape) (all xs ys us vs : List Worker) → all ≡ xs ++ ys → HaveRunTo keep S xs us → HaveRunTo keep S ys vs → HaveRunTo keep S all (us ++ vs)
halves_run keep S all xs ys us vs whole h k = subst (λ (z : List Worker). HaveRunTo keep S z (us ++ vs)) (sym whole) (both_run keep S xs ys us vs h k)
