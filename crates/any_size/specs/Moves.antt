-- The moves of a root. Each is one load of word 0, which is counted aside.
use Rattle.std.specs.Prelude.{◌≡◌, ℕ, ◌+◌, List, [], ◌∷◌, ◌++◌}
use mathlib.Core.List.{IsPrefix}
use Rattle.place_core.specs.Passes.{longer}
use Rattle.any_size.specs.declared.call.BlockEntry.{BlockEntry}
use Rattle.any_size.specs.declared.view.BlockRole.TheVariants as role
use Rattle.any_size.specs.declared.view.Beside.{Beside}
use Rattle.any_size.specs.declared.view.Beside.TheVariants as beside
use Rattle.any_size.specs.declared.view.Hold.TheVariants.{Idle}
use Rattle.any_size.specs.declared.view.BlockItem.{BlockItem}
use Rattle.any_size.specs.declared.view.BlockEnded.{BlockEnded}
use Rattle.any_size.specs.declared.view.BlockView.{BlockView}
use Rattle.any_size.specs.Steps.{IsSoundView, Told}

-- the root's view after one more number was given
abbrev pub giver : BlockView → BlockView
giver v = record v { aside = v.aside + 1; given = v.given + 1 }

-- the view of the pass with that number
abbrev pub newcomer : BlockView → BlockView
newcomer v = record { role = role.Pass; starts = v.starts; locks = v.locks; number = v.given + 1; seen = v.seen; mine = []; trail = []; aside = 0; hold = Idle; beside = beside.Nobody; given = 0; ended = [] }

-- a pass is kept whole beside the view
abbrev pub joining : BlockView → BlockView → BlockView
joining v e = record v { aside = v.aside + 1; beside = beside.Pass e.number e.seen e.mine e.trail e.aside }

-- what the root knows of a pass that ended
abbrev pub ended_pass : ℕ → List BlockEntry → List BlockItem → ℕ → BlockEnded
ended_pass n mine trail aside = record { number = n; entries = mine; trail = trail; aside = aside }

-- it is taken in
abbrev pub taken_back : BlockView → ℕ → List BlockEntry → List BlockEntry → List BlockItem → ℕ → BlockView
taken_back v n seen mine trail aside = record v { seen = longer v.seen seen; aside = v.aside + 1; beside = beside.Nobody; ended = v.ended ++ ended_pass n mine trail aside ∷ [] }

-- the pass that was beside the view is taken in: the root has seen all that either had
pub record Takes (v : BlockView) (n : ℕ) (seen mine : List BlockEntry) (trail : List BlockItem) (aside : ℕ) (w : BlockView) : Type 0 where
  pub now : w ≡ taken_back v n seen mine trail aside
  pub old : IsPrefix v.seen w.seen
  pub other : IsPrefix seen w.seen
  pub sound : IsSoundView w

-- what it is, where there is one
abbrev pub TakesFrom : Beside → BlockView → BlockView → Type 0
TakesFrom beside.Nobody v w = Unit {0}
TakesFrom (beside.Pass n seen mine trail aside) v w = Takes v n seen mine trail aside w

-- what the load that takes it in tells
abbrev pub back_told : Told
back_told st m n w = (w.1 ≡ m.1) × TakesFrom m.0.beside m.0 w.0
