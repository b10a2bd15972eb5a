-- How outcomes are collected, state by state.
use Rattle.std.specs.Prelude.{◌≡◌, ◌⊎◌, ℕ, true, List}
use Rattle.std.specs.Ordering.{nat_cmp}
use Rattle.std.specs.Cmp.Lexicographic.{slice_cmp}
use Rattle.std.specs.BTreeSet.{BTreeSet, contains}
use Rattle.place_core.specs.declared.script.Line.{Line}
use Rattle.place_core.specs.declared.shape.Shape.{Shape}
use Rattle.run_steps.specs.Laws.{IsOfPart}
use Rattle.run_outcomes.specs.Outcomes.{longest, EndsAll, outcome_at, IsOutcome}

abbrev pub Has : BTreeSet (List ℕ) → List ℕ → Type 0
Has set q = contains (slice_cmp nat_cmp) set q ≡ true

-- the outcome at the state was added where each thread made all its calls in it, and no other
pub record AddsOutcome (S : Shape) (scripts : List (List Line)) (s : List ℕ) (old new : BTreeSet (List ℕ)) : Type 0 where
  pub stay : (q : List ℕ) → Has old q → Has new q
  pub come : (q : List ℕ) → Has new q → Has old q ⊎ (EndsAll scripts s × (q ≡ outcome_at S scripts s))
  pub kept : EndsAll scripts s → Has new (outcome_at S scripts s)

-- what is kept from one state to the next: those left are states of beginnings of runs, what was found are outcomes, and of
-- each such state in which each thread made all its calls the outcome was found, or it is left
pub record IsCollecting (S : Shape) (scripts : List (List Line)) (left found : BTreeSet (List ℕ)) : Type 0 where
  pub states : (s : List ℕ) → Has left s → IsOfPart S scripts (longest scripts) s
  pub known : (q : List ℕ) → Has found q → IsOutcome S scripts q
  pub each : (s : List ℕ) → IsOfPart S scripts (longest scripts) s → EndsAll scripts s → Has left s ⊎ Has found (outcome_at S scripts s)
