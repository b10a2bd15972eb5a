-- The moves of a root and of notes, and the end of a glance. Each is one load of word 0, which is counted aside.
use Rattle.std.specs.Prelude.{◌≡◌, ℕ, ◌+◌, List, [], ◌∷◌, ◌++◌}
use mathlib.Core.List.{IsPrefix}
use Rattle.atomic_table.specs.Table.{Me, Step}
use Rattle.place_core.specs.declared.entry.Entry.{Entry}
use Rattle.place_core.specs.Passes.{longer}
use Rattle.seat_views.specs.declared.view.Role.TheVariants as role
use Rattle.seat_views.specs.declared.view.Beside.{Beside}
use Rattle.seat_views.specs.declared.view.Beside.TheVariants as beside
use Rattle.seat_views.specs.declared.view.Flight.TheVariants.{Idle}
use Rattle.seat_views.specs.declared.view.Item.{Item}
use Rattle.seat_views.specs.declared.view.Ended.{Ended}
use Rattle.seat_views.specs.declared.view.View.{View}
use Rattle.seat_views.specs.Steps.{IsSoundView}

-- ---- a pass

-- the root's view after one more number was given
abbrev pub giver : View → View
giver v = record v { aside = v.aside + 1; given = v.given + 1 }

-- the view of the pass with that number
abbrev pub newcomer : View → View
newcomer v = record { role = role.Pass; shape = v.shape; number = v.given + 1; seen = v.seen; mine = []; trail = []; aside = 0; flight = Idle; beside = beside.Nobody; given = 0; ended = [] }

-- a pass is kept whole beside the view
abbrev pub joining : View → View → View
joining v e = record v { aside = v.aside + 1; beside = beside.Pass e.number e.seen e.mine e.trail e.aside }

abbrev pub ended_pass : ℕ → List Entry → List Item → ℕ → Ended
ended_pass n mine trail aside = record { number = n; entries = mine; trail = trail; aside = aside }

-- it is taken in
abbrev pub taken_back : View → ℕ → List Entry → List Entry → List Item → ℕ → View
taken_back v n seen mine trail aside = record v { seen = longer v.seen seen; aside = v.aside + 1; beside = beside.Nobody; ended = v.ended ++ ended_pass n mine trail aside ∷ [] }

pub record Takes (v : View) (n : ℕ) (seen mine : List Entry) (trail : List Item) (aside : ℕ) (w : View) : Type 0 where
  pub now : w ≡ taken_back v n seen mine trail aside
  pub old : IsPrefix v.seen w.seen
  pub other : IsPrefix seen w.seen
  pub sound : IsSoundView w

abbrev pub TakesFrom : Beside → View → View → Type 0
TakesFrom beside.Nobody v w = Unit {0}
TakesFrom (beside.Note seen) v w = Unit {0}
TakesFrom (beside.Pass n seen mine trail aside) v w = Takes v n seen mine trail aside w

abbrev pub back_tells : Me (Unit {0}) View → Me (Unit {0}) View → Type 0
back_tells m w = (w.1 ≡ m.1) × TakesFrom m.0.beside m.0 w.0

abbrev pub back_told : Step (Unit {0}) → Me (Unit {0}) View → ℕ → Me (Unit {0}) View → Type 0
back_told st m n w = back_tells m w

-- ---- a note

-- the view of the pass after it gave one
abbrev pub noting : View → View
noting v = record v { aside = v.aside + 1 }

abbrev pub note_view : View → View
note_view v = record { role = role.Note; shape = v.shape; number = 0; seen = v.seen; mine = []; trail = []; aside = 0; flight = Idle; beside = beside.Nobody; given = 0; ended = [] }

-- a note is kept beside the view
abbrev pub meeting : View → View → View
meeting v e = record v { aside = v.aside + 1; beside = beside.Note e.seen }

-- it is taken in
abbrev pub met : View → List Entry → View
met v seen = record v { seen = longer v.seen seen; aside = v.aside + 1; beside = beside.Nobody }

pub record Hears (v : View) (seen : List Entry) (w : View) : Type 0 where
  pub now : w ≡ met v seen
  pub old : IsPrefix v.seen w.seen
  pub other : IsPrefix seen w.seen
  pub sound : IsSoundView w

abbrev pub HearsFrom : Beside → View → View → Type 0
HearsFrom beside.Nobody v w = Unit {0}
HearsFrom (beside.Note seen) v w = Hears v seen w
HearsFrom (beside.Pass n seen mine trail aside) v w = Unit {0}

abbrev pub meet_tells : Me (Unit {0}) View → Me (Unit {0}) View → Type 0
meet_tells m w = (w.1 ≡ m.1) × HearsFrom m.0.beside m.0 w.0

abbrev pub meet_told : Step (Unit {0}) → Me (Unit {0}) View → ℕ → Me (Unit {0}) View → Type 0
meet_told st m n w = meet_tells m w

-- ---- a glance that is dropped

abbrev pub dropped : View → View
dropped v = record v { aside = v.aside + 1; flight = Idle }

abbrev pub drop_told : Step (Unit {0}) → Me (Unit {0}) View → ℕ → Me (Unit {0}) View → Type 0
drop_told st m n w = (w.1 ≡ m.1) × (w.0 ≡ dropped m.0)
