-- The states of beginnings of runs, in a set.
use Rattle.std.specs.Prelude.{◌≡◌, ◌↔◌, ℕ, ◌≤◌, List, true}
use Rattle.std.specs.Ordering.{nat_cmp}
use Rattle.std.specs.Cmp.Lexicographic.{slice_cmp}
use Rattle.std.specs.BTreeSet.{BTreeSet, btree_set_len, contains}
use Rattle.place_core.specs.declared.script.Line.{Line}
use Rattle.place_core.specs.declared.shape.Shape.{Shape}
use Rattle.run_steps.specs.Laws.{IsOfPart}

-- the set has exactly the states of beginnings of runs, and at most as many as the limit
pub record HasEveryState (S : Shape) (scripts : List (List Line)) (kept limit : ℕ) (found : BTreeSet (List ℕ)) : Type 0 where
  pub exact : (s : List ℕ) → (contains (slice_cmp nat_cmp) found s ≡ true) ↔ IsOfPart S scripts kept s
  pub within : btree_set_len found ≤ limit
