-- From what the steps on locks and parts tell of views to what contracts say of passes.
use Rattle.std.proofs.Common.{◌≡◌, ℕ, ◌++◌, refl, ap, sym, ◌∙◌, subst, Some}
use Rattle.atomic_table.specs.Seated.{TableId}
use Rattle.op_table.specs.declared.kind.Kind.{Kind}
use Rattle.op_table.specs.declared.call.Call.{Call}
use Rattle.op_table.specs.declared.call.Call.TheVariants.{Load}
use Rattle.op_table.specs.declared.call.Reply.{Reply}
use Rattle.op_table.specs.declared.call.Reply.TheVariants.{Value}
use Rattle.op_table.specs.Call.{answer_of}
use Rattle.place_core.specs.declared.entry.Entry.{Entry}
use Rattle.place_core.specs.declared.places.Place.TheVariants.{Parts}
use Rattle.place_core.specs.declared.shape.Shape.{Shape}
use Rattle.place_core.specs.Shapes.{place_of, kind_of, lock_word}
use Rattle.seat_views.specs.declared.view.Item.{Item}
use Rattle.seat_views.specs.declared.view.StepKind.{StepKind}
use Rattle.seat_views.specs.declared.view.StepKind.TheVariants as kind
use Rattle.seat_views.specs.declared.view.View.{View}
use Rattle.seat_views.specs.Places.{value_after, lock_in, word_of_lock}
use Rattle.seat_views.specs.Steps.{entry, item, Grows, GrowsFrom}
use Rattle.seat_views.specs.LockSteps.{stored_by, stamp_in, value_read}
use Rattle.seat_views.specs.States.{PassState, state_of, Appends}
use Rattle.seat_views.specs.LockStates.{Releases, Matches}
use Rattle.seat_views.proofs.Landing.{appends_of, appends_from}

module _ (S : Shape) (o l f n b : ℕ) (place : place_of S o ≡ Some (Parts l f n b)) (z z' : TableId) (v u : View) (p : PassState) (old : state_of z v ≡ p) (same : z' ≡ z) where
  lock_at : lock_word S l ≡ word_of_lock S o
  lock_at = λ t. lock_word S (lock_in (sym place t))

  appends : (call : Call) (r r' : Reply) (k : StepKind) (q q' : ℕ) → r' ≡ r → q' ≡ q → Grows v (entry v.number o call r') (item (lock_word S l) k q') u → Appends p (entry p.number o call r) (item (word_of_lock S o) k q) (state_of z' u)
  appends call r r' k q q' r_at q_at g = subst (λ (x : PassState). Appends x (entry x.number o call r) (item (word_of_lock S o) k q) (state_of z' u)) old
      (appends_of z z' same v u (entry v.number o call r) (item (word_of_lock S o) k q)
      (subst (λ (x : Reply × ℕ × ℕ). Grows v (entry v.number o call x.0) (item x.1 k x.2) u) (λ t. (r_at t, lock_at t, q_at t)) g))

  pub released_at : (kd : Kind) (call : Call) (value stamp : ℕ) (r : Reply) → v.shape ≡ S → kind_of S o ≡ kd → value ≡ value_read S o v.flight → stamp ≡ stored_by v.flight → r ≡ answer_of kd call value
      → GrowsFrom v (entry v.number o call (answer_of kd call value)) (item (lock_word S l) kind.Release stamp) value u → Releases S o call p r (state_of z' u)
  released_at kd call value stamp r shaped kind_is value_is stamp_is r_is g =
      let x : Entry = entry v.number o call r in
      let i : Item = item (word_of_lock S o) kind.Release (stored_by v.flight) in
      let h : GrowsFrom v x i (value_read S o v.flight) u = subst (λ (y : Reply × ℕ × ℕ × ℕ). GrowsFrom v (entry v.number o call y.0) (item y.1 kind.Release y.2) y.3 u)
      (λ t. (sym r_is t, lock_at t, stamp_is t, value_is t)) g in
      let a = appends_from z z' same v u x i (value_read S o v.flight) h in
      subst (λ (y : PassState). Releases S o call y r (state_of z' u)) old record {
        reply = r_is ∙ (λ t. answer_of (sym kind_is t) call (value_is t));
        appends = a.0;
        value = (let b = a.0 in ap (λ (T : Shape). value_after T (v.seen ++ b.between) o) (sym shaped)) ∙ a.1;
      }

  pub matched_at : (value stamp q : ℕ) → value ≡ value_read S o v.flight → stamp ≡ stamp_in v.flight → q ≡ stamp
      → (q ≡ stamp → Grows v (entry v.number o Load (Value value)) (item (lock_word S l) kind.Match q) u) → Matches S o p value (state_of z' u)
  matched_at value stamp q value_is stamp_is stands g = let e : v.flight ≡ p.flight = ap (λ (x : PassState). x.flight) old in record {
    value = value_is ∙ ap (value_read S o) e;
    appends = appends Load (Value value) (Value value) kind.Match (stamp_in p.flight) q refl (stands ∙ (stamp_is ∙ ap stamp_in e)) (g stands);
  }
