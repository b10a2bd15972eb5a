-- What contracts say of an update: a load, and exchanges from the number that was found last.
use Rattle.std.specs.Prelude.{◌≡◌, ℕ, ◌+◌, ◌*◌, ◌<◌, ◌≤◌, ⊤, List, [], ◌∷◌, ◌++◌, length, Option, Some, None, Result, Ok, Err}
use Rattle.op_table.specs.declared.call.Call.{Call}
use Rattle.op_table.specs.declared.call.Call.TheVariants.{Load, Cas}
use Rattle.op_table.specs.declared.call.Reply.{Reply}
use Rattle.op_table.specs.declared.call.Reply.TheVariants.{Value, Done, Failed}
use Rattle.place_core.specs.declared.entry.Entry.{Entry}
use Rattle.place_core.specs.declared.shape.Shape.{Shape}
use Rattle.place_core.specs.Cells.{value_of}
use Rattle.place_core.specs.Changes.{changes_from}
use Rattle.place_core.specs.Shapes.{cells_of_shape}
use Rattle.place_core.specs.Earned.{changes_by_others}
use Rattle.layout_plan.specs.Laws.{HasLane}
use Rattle.seat_views.specs.Places.{data_of_lane}
use Rattle.seat_views.specs.States.{PassState}
use Rattle.seat_views.specs.Makes.{MakesCalls}
use Rattle.atomic_types.specs.Serving.{IsOne}
use Rattle.update_table.specs.declared.update.Stop.{Stop}
use Rattle.update_table.specs.declared.update.Stop.TheVariants.{Refused, Outside}
use Rattle.update_table.specs.Rules.{InRange}

-- an exchange that was lost: the number that it would have stored, and the number that it found
pub record Lost : Type 0 where
  pub new : ℕ
  pub found : ℕ

-- the number found last, after the number v
abbrev pub found_last : ℕ → List Lost → ℕ
found_last v [] = v
found_last v (l ∷ more) = found_last l.found more

-- the exchanges on object o, each from the number that was found before it
abbrev pub exchanges : ℕ → ℕ → List Lost → List (ℕ × Call)
exchanges o v [] = []
exchanges o v (l ∷ more) = (o, Cas v l.new) ∷ exchanges o l.found more

-- their replies
abbrev pub failures : List Lost → List Reply
failures [] = []
failures (l ∷ more) = Failed l.found ∷ failures more

-- the number v, of the range, is led to n, of the range
pub record IsLed (lo hi : ℕ) (follows : ℕ → Option ℕ → Type 0) (v n : ℕ) : Type 0 where
  pub from : InRange lo hi v
  pub to : InRange lo hi n
  pub leads : follows v (Some n)

-- each of the exchanges stores what the number found before it is led to
abbrev pub AreLed : ℕ → ℕ → (ℕ → Option ℕ → Type 0) → ℕ → List Lost → Type 0
AreLed lo hi leads v [] = ⊤
AreLed lo hi leads v (l ∷ more) = IsLed lo hi leads v l.new × AreLed lo hi leads l.found more

-- how many entries, which come after `before`, are of other callers than c and change the value of object o
abbrev pub value_changes_by_others : Shape → ℕ → ℕ → List Entry → List Entry → ℕ
value_changes_by_others S o c before since = changes_from (λ (x : Entry). x.caller) (λ H. value_of (cells_of_shape S) H o) c before since

-- one step makes each call that an update may make
abbrev pub AreAllOne : Shape → ℕ → Type 0
AreAllOne S o = IsOne S o Load × ((e n : ℕ) → IsOne S o (Cas e n))

-- the pass made one load, then exchanges that were lost, each from the number found before it, then these `last` calls; the
-- number found last is n. Each lost exchange is paid for by a change of the value that another caller made. On a lane the
-- steps are one for the load, two for each exchange, and one more for each change of the word that others made meanwhile;
-- where one step makes each call, one for each
pub record Tried (S : Shape) (o lo hi : ℕ) (leads : ℕ → Option ℕ → Type 0) (p : PassState) (n : ℕ) (last : List (ℕ × Call)) (told : List Reply) (q : PassState) : Type 0 where
  pub first : ℕ
  pub lost : List Lost
  pub number : found_last first lost ≡ n
  pub led : AreLed lo hi leads first lost
  pub calls : MakesCalls S ((o, Load) ∷ exchanges o first lost ++ last) p (Value first ∷ failures lost ++ told) q
  pub paid : length lost ≤ value_changes_by_others S o p.number p.seen calls.made.more
  pub cost : HasLane S o → length calls.steps ≤ 1 + 2 * (length lost + length last) + changes_by_others S (data_of_lane S o) p.number p.seen calls.made.more
  pub one : AreAllOne S o → length calls.steps ≡ 1 + (length lost + length last)

-- the number found last was exchanged for what it is led to, or it is refused, or it isn't from lo to hi
abbrev pub Updates : Shape → ℕ → ℕ → ℕ → (ℕ → Option ℕ → Type 0) → PassState → Result ℕ Stop → PassState → Type 0
Updates S o lo hi leads p (Ok v) q = (n : ℕ) × IsLed lo hi leads v n × Tried S o lo hi leads p v ((o, Cas v n) ∷ []) (Done v ∷ []) q
Updates S o lo hi leads p (Err (Refused v)) q = InRange lo hi v × leads v None × Tried S o lo hi leads p v [] [] q
Updates S o lo hi leads p (Err (Outside v)) q = (InRange lo hi v → ⊥) × Tried S o lo hi leads p v [] [] q
