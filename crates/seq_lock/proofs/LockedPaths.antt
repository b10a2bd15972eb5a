-- The steps of a call under the lock, as a path of the call.
use Rattle.std.proofs.Common.{◌≡◌, ℕ, Bool, true, false, if◌then◌else◌, List, [], Option, Some, refl, ap, ◌∙◌, subst}
use Rattle.std.specs.Prelude.{◌&&◌, not}
use Rattle.op_table.specs.declared.call.Call.{Call}
use Rattle.op_table.specs.declared.call.Reply.{Reply}
use Rattle.op_table.specs.CallTests.{is_load, does_write}
use Rattle.place_core.specs.declared.places.Place.{Place}
use Rattle.place_core.specs.declared.shape.Shape.{Shape}
use Rattle.place_core.specs.Shapes.{kind_of, data_word, lock_word}
use Rattle.place_core.specs.Operations.{path_at}
use Rattle.place_core.proofs.Earning.{table_reply_is_not_spurious}
use Rattle.seat_views.specs.declared.view.Item.{Item}
use Rattle.seat_views.specs.Places.{lock_in, first_in, count_in, HasParts, parts_of, word_of_lock}
use Rattle.seat_views.specs.Steps.{entry}
use Rattle.seat_views.specs.Paths.{eat_locked, eat_glance, eat_by, IsPath}
use Rattle.seat_views.specs.States.{PassState}
use Rattle.seat_views.specs.Makes.{MakesCall}
use Rattle.seat_views.proofs.ShapePlaces.{count_is}
use Rattle.seq_lock.specs.Holds.{first_word, MakesLocked}

-- in a section no call glances first
pub straight : (load section : Bool) → section ≡ true → (load && not section) ≡ false
straight true section e = ap not e
straight false section e = refl

-- nor does a call that isn't a load
pub straight_else : (load section : Bool) → load ≡ false → (load && not section) ≡ false
straight_else load section e = ap (λ (b : Bool). b && not section) e

module _ (S : Shape) (o : ℕ) (has : HasParts S o) where
  pub count_at : parts_of S o ≡ has.count
  count_at = count_is S o has.lock has.first has.count has.bits has.place

  -- the piece under the lock, by the object's place
  pub locked_at : (writes : Bool) (T : List Item) → eat_locked (word_of_lock S o) (first_word S o) (parts_of S o) writes T ≡ Some [] → eat_locked (lock_word S has.lock) (data_word has.first) has.count writes T ≡ Some []
  locked_at writes T e = subst (λ (z : Option Place). eat_locked (lock_word S (lock_in z)) (data_word (first_in z)) (count_in z) writes T ≡ Some []) has.place e

  -- a call that doesn't glance first
  pub locked_path : (call : Call) (r : Reply) (T : List Item) → (is_load call && not S.section) ≡ false → eat_locked (word_of_lock S o) (first_word S o) (parts_of S o) (does_write call r) T ≡ Some [] → IsPath S o call r T
  locked_path call r T straight e =
      ap (λ (p : Option Place). eat_by S (path_at S (kind_of S o) call p) p call r T) has.place
      ∙ (ap (λ (c : Bool). if c then eat_glance (lock_word S has.lock) (data_word has.first) has.count (eat_locked (lock_word S has.lock) (data_word has.first) has.count false) T else eat_locked (lock_word S has.lock) (data_word has.first) has.count (does_write call r) T) straight
      ∙ locked_at (does_write call r) T e)

  -- and its whole contract
  unfoldable pub locked_call : (call : Call) (p q : PassState) (r : Reply) → (is_load call && not S.section) ≡ false → MakesLocked S o call p r q → MakesCall S o call p r q
  locked_call call p q r straight h = record {
    steps = h.steps;
    made = h.made;
    path = locked_path call r h.steps straight h.eaten;
    earned = λ spurious. absurd (table_reply_is_not_spurious S (entry p.number o call r) h.value h.reply spurious);
  }
