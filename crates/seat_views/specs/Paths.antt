-- The steps of a call, read off the front of a trail. Each of these functions answers what is left of the trail after
-- the steps that it names, and none where the trail doesn't begin with them.
use Rattle.std.specs.Prelude.{◌≡◌, ℕ, zero, suc, ◌/◌, ◌%◌, ◌^◌, ◌==◌, ◌&&◌, ◌||◌, not, Bool, false, if◌then◌else◌, List, [], ◌∷◌, Option, Some, None}
use Rattle.op_table.specs.declared.call.Call.{Call}
use Rattle.op_table.specs.declared.call.Reply.{Reply}
use Rattle.op_table.specs.CallTests.{expects_another, is_load, does_write}
use Rattle.place_core.specs.declared.places.Place.{Place}
use Rattle.place_core.specs.declared.places.Place.TheVariants.{Lane, Parts}
use Rattle.place_core.specs.declared.places.Path.{Path}
use Rattle.place_core.specs.declared.places.Path.TheVariants.{One, Loop, Locked}
use Rattle.place_core.specs.declared.shape.Shape.{Shape}
use Rattle.place_core.specs.Shapes.{place_of, data_word, lock_word}
use Rattle.place_core.specs.Operations.{plan_of}
use Rattle.seat_views.specs.declared.view.StepKind.{StepKind}
use Rattle.seat_views.specs.declared.view.StepKind.TheVariants as step
use Rattle.seat_views.specs.declared.view.Item.{Item}
use Rattle.seat_views.specs.Limits.{last_stamp}
use Rattle.seat_views.specs.LockSteps.{released}
use Rattle.seat_views.specs.Items.{number_in, is_item, is_numbered, is_just}
use Rattle.seat_views.specs.Deciding.{lost_try_settles}

-- ---- steps one after another

abbrev pub and_then : Option (List Item) → (List Item → Option (List Item)) → Option (List Item)
and_then None more = None
and_then (Some T) more = more T

-- one step
abbrev pub eat_one : StepKind → ℕ → List Item → Option (List Item)
eat_one k w [] = None
eat_one k w (i ∷ T) = if is_item k w i then Some T else None

-- one step with this number
abbrev pub eat_just : StepKind → ℕ → ℕ → List Item → Option (List Item)
eat_just k w n [] = None
eat_just k w n (i ∷ T) = if is_just k w n i then Some T else None

-- one step on each of these many words, from w up
abbrev pub eat_run : StepKind → ℕ → ℕ → List Item → Option (List Item)
eat_run k w zero T = Some T
eat_run k w (suc c) [] = None
eat_run k w (suc c) (i ∷ T) = if is_numbered k w i then eat_run k (suc w) c T else None

-- ---- on a lane

-- the bits of a lane, of d bits and the lowest of them s, in a word
abbrev pub lane_in : ℕ → ℕ → ℕ → ℕ
lane_in s d n = n / 2 ^ s % 2 ^ d

-- a try from the number n that found m is the last: it won, or it settles the call
abbrev pub is_last_try : (ℕ → ℕ) → Call → ℕ → ℕ → Bool
is_last_try lane call n m = (m == n) || lost_try_settles call (lane m)

-- tries up to the last, the first of them from the number n, and each later one from the number found before it
abbrev pub eat_tries : (ℕ → ℕ) → ℕ → Call → ℕ → List Item → Option (List Item)
eat_tries lane w call n [] = None
eat_tries lane w call n (i ∷ T) = if is_numbered step.Try w i
    then (if is_last_try lane call n (number_in i.number) then Some T else eat_tries lane w call (number_in i.number) T)
    else None

-- a look, and tries from the number that it found, unless it found that the exchange fails
abbrev pub eat_loop : (ℕ → ℕ) → ℕ → Call → List Item → Option (List Item)
eat_loop lane w call [] = None
eat_loop lane w call (i ∷ T) = if is_numbered step.Look w i
    then (if expects_another call (lane (number_in i.number)) then Some T else eat_tries lane w call (number_in i.number) T)
    else None

-- ---- under a lock

abbrev pub count_if : Bool → ℕ → ℕ
count_if writes c = if writes then c else 0

-- takes that found 1, and one that found another number: that number, and what is left
abbrev pub eat_takes : ℕ → List Item → Option (ℕ × List Item)
eat_takes lock [] = None
eat_takes lock (i ∷ T) = if is_numbered step.Take lock i then (if number_in i.number == 1 then eat_takes lock T else Some (number_in i.number, T)) else None

-- the lock had this stamp: each part is read, then each is stored where the call writes, then the lock is released
abbrev pub eat_held : ℕ → ℕ → ℕ → Bool → Option (ℕ × List Item) → Option (List Item)
eat_held lock first count writes None = None
eat_held lock first count writes (Some r) =
    and_then (and_then (eat_run step.Held first count r.1) (eat_run step.Put first (count_if writes count))) (eat_just step.Release lock (released writes r.0))

-- the whole piece under the lock
abbrev pub eat_locked : ℕ → ℕ → ℕ → Bool → List Item → Option (List Item)
eat_locked lock first count writes T = eat_held lock first count writes (eat_takes lock T)

-- ---- a glance

-- the stamp again, and what follows where it isn't s any more
abbrev pub eat_match : ℕ → ℕ → (List Item → Option (List Item)) → List Item → Option (List Item)
eat_match lock s missed [] = None
eat_match lock s missed (i ∷ T) = if is_numbered step.Match lock i then (if number_in i.number == s then Some T else missed T) else None

-- a stamp, each part, and the stamp again; and what follows where the lock was held, had the last stamp, or had moved
abbrev pub eat_glance : ℕ → ℕ → ℕ → (List Item → Option (List Item)) → List Item → Option (List Item)
eat_glance lock first count missed [] = None
eat_glance lock first count missed (i ∷ T) = if is_numbered step.Stamp lock i
    then (if (number_in i.number == 1) || (number_in i.number == last_stamp) then missed T
    else and_then (eat_run step.Part first count T) (eat_match lock (number_in i.number) missed))
    else None

-- ---- a call

-- by one step on the lane's word
abbrev pub eat_one_step : Option Place → List Item → Option (List Item)
eat_one_step None T = None
eat_one_step (Some (Lane w s d)) T = eat_one step.Op (data_word w) T
eat_one_step (Some (Parts l f n b)) T = None

-- by a look and tries on the lane's word
abbrev pub eat_turns : Option Place → Call → List Item → Option (List Item)
eat_turns None call T = None
eat_turns (Some (Lane w s d)) call T = eat_loop (lane_in s d) (data_word w) call T
eat_turns (Some (Parts l f n b)) call T = None

-- part by part: a load glances first, but in a section, and takes the lock where it missed
abbrev pub eat_parts : Shape → Option Place → Call → Reply → List Item → Option (List Item)
eat_parts S None call r T = None
eat_parts S (Some (Lane w s d)) call r T = None
eat_parts S (Some (Parts l f n b)) call r T = if is_load call && not S.section
    then eat_glance (lock_word S l) (data_word f) n (eat_locked (lock_word S l) (data_word f) n false) T
    else eat_locked (lock_word S l) (data_word f) n (does_write call r) T

abbrev pub eat_by : Shape → Path → Option Place → Call → Reply → List Item → Option (List Item)
eat_by S (One done) p call r T = eat_one_step p T
eat_by S Loop p call r T = eat_turns p call T
eat_by S Locked p call r T = eat_parts S p call r T

-- the steps of one call on object o that had this reply
abbrev pub eat_path : Shape → ℕ → Call → Reply → List Item → Option (List Item)
eat_path S o call r T = eat_by S (plan_of S o call) (place_of S o) call r T

-- these are the steps of the call
abbrev pub IsPath : Shape → ℕ → Call → Reply → List Item → Type 0
IsPath S o call r T = eat_path S o call r T ≡ Some []

-- the steps of calls, of each its object and the call, with their replies
abbrev pub eat_paths : Shape → List (ℕ × Call) → List Reply → List Item → Option (List Item)
eat_paths S [] [] T = Some T
eat_paths S [] (r ∷ rs) T = None
eat_paths S (c ∷ cs) [] T = None
eat_paths S (c ∷ cs) (r ∷ rs) T = and_then (eat_path S c.0 c.1 r T) (eat_paths S cs rs)

-- these are the steps of the calls, one after another
abbrev pub ArePaths : Shape → List (ℕ × Call) → List Reply → List Item → Type 0
ArePaths S cs rs T = eat_paths S cs rs T ≡ Some []

-- these are the steps of a glance at object o, which may have missed
abbrev pub IsGlanceAt : Shape → Option Place → List Item → Type 0
IsGlanceAt S None T = ⊥
IsGlanceAt S (Some (Lane w s d)) T = ⊥
IsGlanceAt S (Some (Parts l f n b)) T = eat_glance (lock_word S l) (data_word f) n (λ U. Some U) T ≡ Some []

abbrev pub IsGlance : Shape → ℕ → List Item → Type 0
IsGlance S o T = IsGlanceAt S (place_of S o) T
