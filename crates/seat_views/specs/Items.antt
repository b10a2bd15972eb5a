-- Steps in a trail: what kind of step an item is, on which word, and the number that it found or stored.
use Rattle.std.specs.Prelude.{ℕ, zero, suc, ◌+◌, ◌==◌, ◌&&◌, Bool, true, false, List, [], ◌∷◌, Option, Some, None}
use Rattle.place_core.specs.WordSums.{one_if}
use Rattle.seat_views.specs.declared.view.StepKind.{StepKind}
use Rattle.seat_views.specs.declared.view.StepKind.TheVariants as step
use Rattle.seat_views.specs.declared.view.Item.{Item}

-- a number for each kind of step
abbrev pub kind_code : StepKind → ℕ
kind_code step.Op = 0
kind_code step.Look = 1
kind_code step.Try = 2
kind_code step.Take = 3
kind_code step.Held = 4
kind_code step.Put = 5
kind_code step.Release = 6
kind_code step.Stamp = 7
kind_code step.Part = 8
kind_code step.Match = 9

abbrev pub has_number : Option ℕ → Bool
has_number None = false
has_number (Some n) = true

abbrev pub number_in : Option ℕ → ℕ
number_in None = 0
number_in (Some n) = n

-- a step of this kind
abbrev pub is_step : StepKind → Item → Bool
is_step k i = kind_code i.kind == kind_code k

-- a step of this kind on this word
abbrev pub is_item : StepKind → ℕ → Item → Bool
is_item k w i = is_step k i && (i.word == w)

-- besides, it has a number
abbrev pub is_numbered : StepKind → ℕ → Item → Bool
is_numbered k w i = is_item k w i && has_number i.number

-- besides, the number is n
abbrev pub is_just : StepKind → ℕ → ℕ → Item → Bool
is_just k w n i = is_numbered k w i && (number_in i.number == n)

-- the number of the item at a place, counted from 0; 0 where there is none
abbrev pub number_at : ℕ → List Item → ℕ
number_at p [] = 0
number_at zero (i ∷ T) = number_in i.number
number_at (suc p) (i ∷ T) = number_at p T

-- how many steps of this kind a trail has
abbrev pub count_of : StepKind → List Item → ℕ
count_of k [] = 0
count_of k (i ∷ T) = one_if (is_step k i) + count_of k T
