-- States that can be reached by steps, where each state has one number of choices, and each choice leads to one state or none.
use Rattle.std.specs.Prelude.{◌≡◌, ℕ, ◌+◌, ◌<◌, ◌≤◌, ◌↔◌, Option, Some, List, length, true}
use Rattle.std.specs.List.{AllByRecursion, IsDistinct}
use Rattle.std.specs.Ordering.{eq_by_cmp}
use Rattle.std.specs.declared.cmp.Ordering.{Ordering}
use Rattle.std.specs.BTreeSet.{BTreeSet, btree_set_len, contains}

-- the start, and each state to which a choice leads from one that can be reached
pub data Reached {S : Type 0} (choices : ℕ) (after : S → ℕ → Option S) (start : S) : S → Type 0 where
  begins : Reached choices after start start
  goes : (s t : S) (k : ℕ) → Reached choices after start s → k < choices → after s k ≡ Some t → Reached choices after start t

-- these are the states that can be reached, and there are at most as many as the limit
pub record HasReached {S : Type 0} (cmp : S → S → Ordering) (choices : ℕ) (after : S → ℕ → Option S) (start : S) (limit : ℕ) (found : BTreeSet S) : Type 0 where
  pub exact : (s : S) → (contains cmp found s ≡ true) ↔ Reached choices after start s
  pub within : btree_set_len found ≤ limit

-- more states can be reached than the limit: so many and one more, no two of them equal
pub record ReachesMore {S : Type 0} (cmp : S → S → Ordering) (choices : ℕ) (after : S → ℕ → Option S) (start : S) (limit : ℕ) : Type 0 where
  pub states : List S
  pub count : length states ≡ limit + 1
  pub differ : IsDistinct (eq_by_cmp cmp) states
  pub reached : AllByRecursion (Reached choices after start) states
