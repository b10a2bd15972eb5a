-- How many steps each path has, as laws that the module `laws` proves.
use Rattle.std.specs.Prelude.{◌≡◌, ◌≢◌, ◌⊎◌, ℕ, suc, ◌+◌, ◌*◌, ◌≤◌, true, false, List, [], ◌∷◌, ◌++◌, length, Some}
use Rattle.op_table.specs.declared.call.Call.{Call}
use Rattle.op_table.specs.declared.call.Call.TheVariants.{Load}
use Rattle.op_table.specs.declared.call.Reply.{Reply}
use Rattle.op_table.specs.CallTests.{expects_another, is_weak, is_load, has_failed}
use Rattle.place_core.specs.declared.places.Place.TheVariants.{Lane, Parts}
use Rattle.place_core.specs.declared.places.WordOp.{WordOp}
use Rattle.place_core.specs.declared.places.Path.TheVariants.{One, Loop}
use Rattle.place_core.specs.declared.shape.Shape.{Shape}
use Rattle.place_core.specs.Shapes.{place_of, data_word, lock_word}
use Rattle.place_core.specs.Operations.{plan_of}
use Rattle.seat_views.specs.declared.view.StepKind.TheVariants as step
use Rattle.seat_views.specs.declared.view.Item.{Item}
use Rattle.seat_views.specs.Limits.{last_stamp}
use Rattle.seat_views.specs.Items.{number_in, is_numbered, number_at, count_of}
use Rattle.seat_views.specs.Paths.{lane_in, is_last_try, eat_locked, IsPath, IsGlance}

-- ---- steps on a lane

-- where one step serves there is one
abbrev pub OneStepIsOneItem : Type 0
OneStepIsOneItem = (S : Shape) (o : ℕ) (call : Call) (r : Reply) (T : List Item) (done : WordOp) → plan_of S o call ≡ One done → IsPath S o call r T → length T ≡ 1

-- a look that finds another value than the exchange expects
abbrev pub RefusedLookIsOneItem : Type 0
RefusedLookIsOneItem = (S : Shape) (o : ℕ) (call : Call) (r : Reply) (T : List Item) (w s d : ℕ) → plan_of S o call ≡ Loop → place_of S o ≡ Some (Lane w s d)
    → expects_another call (lane_in s d (number_at 0 T)) ≡ true → IsPath S o call r T → length T ≡ 1

-- a weak exchange that the look doesn't refuse: the look and one try
abbrev pub WeakPathIsTwoItems : Type 0
WeakPathIsTwoItems = (S : Shape) (o : ℕ) (call : Call) (r : Reply) (T : List Item) (w s d : ℕ) → plan_of S o call ≡ Loop → place_of S o ≡ Some (Lane w s d) → is_weak call ≡ true
    → expects_another call (lane_in s d (number_at 0 T)) ≡ false → IsPath S o call r T → length T ≡ 2

-- each of these tries, the first of them from the number n, found another number, and made no call
abbrev pub AreLost : (ℕ → ℕ) → ℕ → Call → ℕ → List Item → Type 0
AreLost lane w call n [] = Unit {0}
AreLost lane w call n (i ∷ more) = (is_numbered step.Try w i ≡ true) × (number_in i.number ≢ n) × (is_last_try lane call n (number_in i.number) ≡ false) × AreLost lane w call (number_in i.number) more

-- the number found last; n where nothing was
abbrev pub found_last : ℕ → List Item → ℕ
found_last n [] = n
found_last n (i ∷ more) = found_last (number_in i.number) more

-- a look, lost tries, and one try that decides
pub record LookAndTries (lane : ℕ → ℕ) (w : ℕ) (call : Call) (T : List Item) : Type 0 where
  pub look : Item
  pub lost : List Item
  pub last : Item
  pub split : T ≡ look ∷ (lost ++ last ∷ [])
  pub looked : is_numbered step.Look w look ≡ true
  pub all_lost : AreLost lane w call (number_in look.number) lost
  pub tried : is_numbered step.Try w last ≡ true
  pub decided : is_last_try lane call (found_last (number_in look.number) lost) (number_in last.number) ≡ true
  pub count : length T ≡ 2 + length lost

abbrev pub LoopIsLookAndTries : Type 0
LoopIsLookAndTries = (S : Shape) (o : ℕ) (call : Call) (r : Reply) (T : List Item) (w s d : ℕ) → plan_of S o call ≡ Loop → place_of S o ≡ Some (Lane w s d)
    → expects_another call (lane_in s d (number_at 0 T)) ≡ false → IsPath S o call r T → LookAndTries (lane_in s d) (data_word w) call T

-- ---- steps on parts

-- takes, at least one, and these many other steps
pub record TakesAnd (others : ℕ) (T : List Item) : Type 0 where
  pub taken : 1 ≤ count_of step.Take T
  pub count : length T ≡ count_of step.Take T + others

-- a call that writes reads each part, and stores each
abbrev pub WideWriteStoresAll : Type 0
WideWriteStoresAll = (S : Shape) (o : ℕ) (call : Call) (r : Reply) (T : List Item) (l f n b : ℕ) → place_of S o ≡ Some (Parts l f n b) → is_load call ≡ false → has_failed r ≡ false → IsPath S o call r T
    → TakesAnd (2 * n + 1) T × (count_of step.Put T ≡ n)

-- an exchange that fails reads each part, and stores none
abbrev pub WideFailureStoresNone : Type 0
WideFailureStoresNone = (S : Shape) (o : ℕ) (call : Call) (r : Reply) (T : List Item) (l f n b : ℕ) → place_of S o ≡ Some (Parts l f n b) → is_load call ≡ false → has_failed r ≡ true → IsPath S o call r T
    → TakesAnd (n + 1) T × (count_of step.Put T ≡ 0)

-- in a section a load does the same
abbrev pub SectionLoadStoresNone : Type 0
SectionLoadStoresNone = (S : Shape) (o : ℕ) (r : Reply) (T : List Item) (l f n b : ℕ) → place_of S o ≡ Some (Parts l f n b) → S.section ≡ true → IsPath S o Load r T
    → TakesAnd (n + 1) T × (count_of step.Put T ≡ 0)

-- ---- a load of parts that isn't in a section

-- it begins with a stamp
pub record StampsFirst (S : Shape) (l : ℕ) (T : List Item) : Type 0 where
  pub first : Item
  pub others : List Item
  pub split : T ≡ first ∷ others
  pub stamps : is_numbered step.Stamp (lock_word S l) first ≡ true

abbrev pub WideLoadStampsFirst : Type 0
WideLoadStampsFirst = (S : Shape) (o : ℕ) (r : Reply) (T : List Item) (l f n b : ℕ) → place_of S o ≡ Some (Parts l f n b) → S.section ≡ false → IsPath S o Load r T → StampsFirst S l T

-- the stamp told that no glance may be begun
abbrev pub IsNoGlance : List Item → Type 0
IsNoGlance T = (number_at 0 T ≡ 1) ⊎ (number_at 0 T ≡ last_stamp)

-- a glance that matched is the whole path
abbrev pub MatchedGlanceIsWhole : Type 0
MatchedGlanceIsWhole = (S : Shape) (o : ℕ) (r : Reply) (T : List Item) (l f n b : ℕ) → place_of S o ≡ Some (Parts l f n b) → S.section ≡ false → IsPath S o Load r T
    → (IsNoGlance T → ⊥) → number_at (suc n) T ≡ number_at 0 T → (length T ≡ n + 2) × (count_of step.Take T ≡ 0)

-- the lock was held, or had the last stamp
abbrev pub HeldGlanceTakes : Type 0
HeldGlanceTakes = (S : Shape) (o : ℕ) (r : Reply) (T : List Item) (l f n b : ℕ) → place_of S o ≡ Some (Parts l f n b) → S.section ≡ false → IsPath S o Load r T
    → IsNoGlance T → TakesAnd (1 + n + 1) T

-- the lock moved
abbrev pub MovedGlanceTakes : Type 0
MovedGlanceTakes = (S : Shape) (o : ℕ) (r : Reply) (T : List Item) (l f n b : ℕ) → place_of S o ≡ Some (Parts l f n b) → S.section ≡ false → IsPath S o Load r T
    → (IsNoGlance T → ⊥) → number_at (suc n) T ≢ number_at 0 T → TakesAnd (n + 2 + (n + 1)) T

-- so the lock is taken only after a look that missed
abbrev pub TakeFollowsMissedLook : Type 0
TakeFollowsMissedLook = (S : Shape) (o : ℕ) (r : Reply) (T : List Item) (l f n b : ℕ) → place_of S o ≡ Some (Parts l f n b) → S.section ≡ false → IsPath S o Load r T
    → 1 ≤ count_of step.Take T → IsNoGlance T ⊎ (number_at (suc n) T ≢ number_at 0 T)

-- and no part is ever stored
abbrev pub WideLoadStoresNone : Type 0
WideLoadStoresNone = (S : Shape) (o : ℕ) (r : Reply) (T : List Item) (l f n b : ℕ) → place_of S o ≡ Some (Parts l f n b) → IsPath S o Load r T → count_of step.Put T ≡ 0

-- ---- a glance, as a call of its own

-- the stamp alone where it told that no glance may be begun, else the stamp, each part, and the stamp again
abbrev pub GlanceIsShort : Type 0
GlanceIsShort = (S : Shape) (o : ℕ) (T : List Item) (l f n b : ℕ) → place_of S o ≡ Some (Parts l f n b) → IsGlance S o T
    → (IsNoGlance T → length T ≡ 1) × ((IsNoGlance T → ⊥) → length T ≡ n + 2) × (count_of step.Take T ≡ 0) × (count_of step.Put T ≡ 0)

-- one that matched is the path of a load
abbrev pub MatchedGlanceIsPath : Type 0
MatchedGlanceIsPath = (S : Shape) (o : ℕ) (r : Reply) (T : List Item) (l f n b : ℕ) → place_of S o ≡ Some (Parts l f n b) → S.section ≡ false → IsGlance S o T
    → (IsNoGlance T → ⊥) → number_at (suc n) T ≡ number_at 0 T → IsPath S o Load r T

-- one that missed, and then the piece under the lock, are the path of a load
abbrev pub MissedGlanceGoesOn : Type 0
MissedGlanceGoesOn = (S : Shape) (o : ℕ) (r : Reply) (T U : List Item) (l f n b : ℕ) → place_of S o ≡ Some (Parts l f n b) → S.section ≡ false → IsGlance S o T
    → IsNoGlance T ⊎ (number_at (suc n) T ≢ number_at 0 T) → eat_locked (lock_word S l) (data_word f) n false U ≡ Some [] → IsPath S o Load r (T ++ U)
