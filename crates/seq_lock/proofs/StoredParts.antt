-- Parts that are stored one after another under the lock.
use Rattle.std.proofs.Common.{◌≡◌, ℕ, suc, ◌+◌, ◌<◌, ◌≤◌, true, false, Bool, List, [], ◌∷◌, ◌++◌, refl, ap, sym, ◌∙◌, subst, arith, Some}
use Rattle.op_table.specs.Kind.{values_of}
use Rattle.place_core.specs.declared.shape.Shape.{Shape}
use Rattle.place_core.specs.Shapes.{kind_of, IsShape}
use Rattle.place_core.specs.PartValues.{part_of}
use Rattle.place_core.proofs.PartSums.{parts_join_to_value}
use Rattle.seat_views.specs.declared.view.Item.{Item}
use Rattle.seat_views.specs.declared.view.Flight.{Flight}
use Rattle.seat_views.specs.declared.view.Flight.TheVariants.{Idle, Hold, Glance}
use Rattle.seat_views.specs.declared.view.StepKind.TheVariants as step
use Rattle.seat_views.specs.Places.{HasParts, parts_of, word_of_part}
use Rattle.seat_views.specs.PartLists.{look_up, got}
use Rattle.seat_views.specs.Steps.{item}
use Rattle.seat_views.specs.LockSteps.{read_in, parts_now, write_more, HoldsRead}
use Rattle.seat_views.specs.Paths.{eat_run}
use Rattle.seat_views.specs.States.{ArenaState, PassState, IsOf}
use Rattle.seat_views.specs.LockStates.{PutsPart}
use Rattle.seat_views.proofs.LockUses.{known_more}
use Rattle.seat_views.proofs.PathEating.{run_snoc}
use Rattle.seq_lock.specs.Holds.{Steps, first_word, with_put, Putting, PutsAll}
use Rattle.seq_lock.proofs.Counts.{value_held}
use Rattle.seq_lock.proofs.HeldParts.{each_more}
use Rattle.seq_lock.proofs.Trails.{numbered, no_steps, step_more, steps_of, steps_flight}

wrote_in : Flight → Bool
wrote_in Idle = false
wrote_in (Glance o stamp read) = false
wrote_in (Hold o stamp read wrote now) = wrote

now_in : Flight → List (ℕ × ℕ)
now_in Idle = []
now_in (Glance o stamp read) = []
now_in (Hold o stamp read wrote now) = now

put_with : (f : Flight) (wrote : Bool) (parts : List (ℕ × ℕ)) (i n : ℕ) → write_more (with_put f wrote parts) i n ≡ with_put f true ((i, n) ∷ parts_now (read_in f) wrote parts)
put_with Idle wrote parts i n = refl
put_with (Glance o stamp read) wrote parts i n = refl
put_with (Hold o stamp read w now) wrote parts i n = refl

put_same : (o n : ℕ) (f : Flight) → HoldsRead o n f → with_put f (wrote_in f) (now_in f) ≡ f
unfolding wrote_in now_in
put_same o n Idle h = absurd h
put_same o n (Glance p stamp read) h = absurd h
put_same o n (Hold p stamp read wrote now) h = refl

put_read : (o n : ℕ) (f : Flight) (wrote : Bool) (parts : List (ℕ × ℕ)) → HoldsRead o n f → HoldsRead o n (with_put f wrote parts)
put_read o n Idle wrote parts h = absurd h
put_read o n (Glance p stamp read) wrote parts h = absurd h
put_read o n (Hold p stamp read w now) wrote parts h = h

module _ (S : Shape) (o : ℕ) (p : PassState) (v : ℕ) where
  pub putting_none : HoldsRead o (parts_of S o) p.flight → Putting S o p v 0 p
  putting_none held = record {
    steps = [];
    wrote = wrote_in p.flight;
    now = now_in p.flight;
    begun = λ some. absurd (omega arith);
    known = λ j lt. absurd (omega arith);
    are = λ j lt. absurd (omega arith);
    eaten = refl;
    state = no_steps p (with_put p.flight (wrote_in p.flight) (now_in p.flight)) (put_same o (parts_of S o) p.flight held);
    kept = λ some. absurd (omega arith);
  }

  module _ (i : ℕ) (q : PassState) (t : Putting S o p v i q) where
    pub putting_of : (a : ArenaState) → IsOf a p → IsOf a q
    putting_of a of = steps_of a p q t.steps (with_put p.flight t.wrote t.now) of t.state

    pub putting_read : HoldsRead o (parts_of S o) p.flight → HoldsRead o (parts_of S o) q.flight
    putting_read held = subst (HoldsRead o (parts_of S o)) (sym (steps_flight p q t.steps (with_put p.flight t.wrote t.now) t.state)) (put_read o (parts_of S o) p.flight t.wrote t.now held)

    pub putting_more : (r : PassState) (n : ℕ) → n ≡ part_of S.word_bits i v → PutsPart S o i q n r → Putting S o p v (i + 1) r
    putting_more r n is h =
        let it : Item = item (word_of_part S o i) step.Put n in
        let before : List (ℕ × ℕ) = parts_now (read_in p.flight) t.wrote t.now in
        let parts : List (ℕ × ℕ) = (i, n) ∷ before in
        let up : suc i ≡ i + 1 = omega arith in
        let same : (j : ℕ) → j < i → t.now ≡ before = λ j lt. sym (ap (λ (b : Bool). parts_now (read_in p.flight) b t.now) (t.begun (omega arith))) in
        let m = h.moved in record {
          steps = t.steps ++ it ∷ [];
          wrote = true;
          now = parts;
          begun = λ _. refl;
          known = known_more i n before (λ j lt. subst (λ (l : List (ℕ × ℕ)). look_up j l ≡ Some (got l j)) (same j lt) (t.known j lt));
          are = each_more (λ j z. z ≡ part_of S.word_bits j v) i n before (λ j lt. subst (λ (l : List (ℕ × ℕ)). got l j ≡ part_of S.word_bits j v) (same j lt) (t.are j lt)) is;
          eaten = subst (λ (z : ℕ). eat_run step.Put (first_word S o) z (t.steps ++ it ∷ []) ≡ Some []) up
              (run_snoc step.Put (first_word S o) i t.steps it t.eaten (numbered step.Put (word_of_part S o i) (first_word S o + i) n (omega arith)));
          state = step_more p q r t.steps (with_put p.flight t.wrote t.now) (write_more q.flight i n) it (with_put p.flight true parts) t.state h.moved
              (ap (λ (f : Flight). write_more f i n) (steps_flight p q t.steps (with_put p.flight t.wrote t.now) t.state) ∙ put_with p.flight t.wrote t.now i n);
          kept = λ _. m.kept;
        }

  pub putting_all : (n : ℕ) (q : PassState) → IsShape S → HasParts S o → n ≡ parts_of S o → 1 ≤ n → v < values_of (kind_of S o) → Putting S o p v n q → PutsAll S o p v q
  putting_all n q ok has count some fits r = go (subst (λ (z : ℕ). Putting S o p v z q) count r) (subst (λ (z : ℕ). 1 ≤ z) count some)
    where
      go : Putting S o p v (parts_of S o) q → 1 ≤ parts_of S o → PutsAll S o p v q
      go t some = record {
        steps = t.steps;
        now = t.now;
        known = t.known;
        are = t.are;
        joins = parts_join_to_value S.word_bits (parts_of S o) (got t.now) v t.are (value_held S ok o has v fits);
        eaten = t.eaten;
        state = subst (λ (b : Bool). Steps p t.steps (with_put p.flight b t.now) q) (t.begun some) t.state;
        kept = t.kept some;
      }
