-- Laws of the steps of calls, as the module `laws` proves them.
use Rattle.std.specs.Prelude.{◌≡◌, ◌⊎◌, ℕ, ◌+◌, ◌<◌, ◌≤◌, Bool, true, false, if◌then◌else◌, List, [], ◌∷◌, ◌++◌, Option, Some}
use Rattle.std.specs.List.{AllByRecursion}
use Rattle.op_table.specs.declared.call.Call.{Call}
use Rattle.op_table.specs.declared.call.Call.TheVariants.{Load}
use Rattle.op_table.specs.declared.call.Reply.{Reply}
use Rattle.op_table.specs.CallTests.{is_load, does_write}
use Rattle.place_core.specs.declared.places.Place.TheVariants.{Lane, Parts}
use Rattle.place_core.specs.declared.shape.Shape.{Shape}
use Rattle.place_core.specs.Shapes.{place_of, data_word, lock_word}
use Rattle.seat_views.specs.declared.view.StepKind.{StepKind}
use Rattle.seat_views.specs.declared.view.StepKind.TheVariants as step
use Rattle.seat_views.specs.declared.view.Item.{Item}
use Rattle.seat_views.specs.LockSteps.{released}
use Rattle.seat_views.specs.Items.{number_in, is_step, is_just, count_of}
use Rattle.seat_views.specs.Paths.{eat_path, IsPath, eat_paths, ArePaths}

-- ---- longer trails

-- what is eaten of a trail is eaten of every longer one
abbrev pub Stretches : (List Item → Option (List Item)) → Type 0
Stretches eat = (T R U : List Item) → eat T ≡ Some R → eat (T ++ U) ≡ Some (R ++ U)

abbrev pub PathStretches : Type 0
PathStretches = (S : Shape) (o : ℕ) (call : Call) (r : Reply) → Stretches (eat_path S o call r)

abbrev pub PathsStretch : Type 0
PathsStretch = (S : Shape) (cs : List (ℕ × Call)) (rs : List Reply) → Stretches (eat_paths S cs rs)

-- no path goes on
abbrev pub PathEnds : Type 0
PathEnds = (S : Shape) (o : ℕ) (call : Call) (r : Reply) (T U : List Item) → IsPath S o call r T → IsPath S o call r (T ++ U) → U ≡ []

-- ---- calls one after another

abbrev pub NoCallsNoSteps : Type 0
NoCallsNoSteps = (S : Shape) (T : List Item) → ArePaths S [] [] T → T ≡ []

abbrev pub OnePathIsPaths : Type 0
OnePathIsPaths = (S : Shape) (o : ℕ) (call : Call) (r : Reply) (T : List Item) → IsPath S o call r T → ArePaths S ((o, call) ∷ []) (r ∷ []) T

-- the trails of consecutive calls, joined
abbrev pub PathsJoin : Type 0
PathsJoin = (S : Shape) (cs ds : List (ℕ × Call)) (rs qs : List Reply) (T U : List Item) → ArePaths S cs rs T → ArePaths S ds qs U → ArePaths S (cs ++ ds) (rs ++ qs) (T ++ U)

abbrev pub PathsWithOneMore : Type 0
PathsWithOneMore = (S : Shape) (cs : List (ℕ × Call)) (rs : List Reply) (o : ℕ) (call : Call) (r : Reply) (T U : List Item) → ArePaths S cs rs T → IsPath S o call r U
    → ArePaths S (cs ++ (o, call) ∷ []) (rs ++ r ∷ []) (T ++ U)

-- ---- the words of steps

-- on an object with a lane every step is on the lane's word
abbrev pub LaneStepsStay : Type 0
LaneStepsStay = (S : Shape) (o : ℕ) (call : Call) (r : Reply) (T : List Item) (w s d : ℕ) → place_of S o ≡ Some (Lane w s d) → IsPath S o call r T → AllByRecursion (λ (i : Item). i.word ≡ data_word w) T

-- takes, releases, stamps and matches
abbrev pub is_on_lock : StepKind → Bool
is_on_lock step.Op = false
is_on_lock step.Look = false
is_on_lock step.Try = false
is_on_lock step.Take = true
is_on_lock step.Held = false
is_on_lock step.Put = false
is_on_lock step.Release = true
is_on_lock step.Stamp = true
is_on_lock step.Part = false
is_on_lock step.Match = true

-- a step on the object's own lock, or on one of its parts
abbrev pub IsOwnStep : Shape → ℕ → ℕ → ℕ → Item → Type 0
IsOwnStep S l f n i = ((is_on_lock i.kind ≡ true) × (i.word ≡ lock_word S l)) ⊎ ((is_on_lock i.kind ≡ false) × (data_word f ≤ i.word) × (i.word < data_word f + n))

-- on an object with parts every take, release, stamp and match is on its own lock, and every other step on one of its parts
abbrev pub PartsStepsStay : Type 0
PartsStepsStay = (S : Shape) (o : ℕ) (call : Call) (r : Reply) (T : List Item) (l f n b : ℕ) → place_of S o ≡ Some (Parts l f n b) → IsPath S o call r T → AllByRecursion (IsOwnStep S l f n) T

-- ---- what a release stores

-- the number that the last take of the trail found; n where there is none
abbrev pub last_taken : ℕ → List Item → ℕ
last_taken n [] = n
last_taken n (i ∷ T) = last_taken (if is_step step.Take i then number_in i.number else n) T

-- the trail ends with a release of the lock, which stores the stamp that the last take found, or after a write two more
pub record ReleasesLast (S : Shape) (l : ℕ) (writes : Bool) (T : List Item) : Type 0 where
  pub before : List Item
  pub last : Item
  pub split : T ≡ before ++ last ∷ []
  pub stores : is_just step.Release (lock_word S l) (released writes (last_taken 0 T)) last ≡ true

abbrev pub CallReleasesLast : Type 0
CallReleasesLast = (S : Shape) (o : ℕ) (call : Call) (r : Reply) (T : List Item) (l f n b : ℕ) → place_of S o ≡ Some (Parts l f n b) → is_load call ≡ false → IsPath S o call r T → ReleasesLast S l (does_write call r) T

abbrev pub LoadReleasesLast : Type 0
LoadReleasesLast = (S : Shape) (o : ℕ) (r : Reply) (T : List Item) (l f n b : ℕ) → place_of S o ≡ Some (Parts l f n b) → IsPath S o Load r T → 1 ≤ count_of step.Take T → ReleasesLast S l false T
