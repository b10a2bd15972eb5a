-- A call under the lock, from its pieces: the takes, the parts read, the parts stored, and the release.
use Rattle.std.proofs.Common.{◌≡◌, ℕ, ◌+◌, Bool, true, false, if◌then◌else◌, List, [], ◌∷◌, ◌++◌, Some, None, refl, ap, sym, ◌∙◌, subst, append_assoc, eq-eqb, ne_eqb, arith}
use Rattle.std.specs.Prelude.{◌&&◌, MatchBool}
use Rattle.std.proofs.lemmas.List.{append-nil}
use Rattle.op_table.specs.declared.call.Call.{Call}
use Rattle.op_table.specs.declared.call.Reply.{Reply}
use Rattle.op_table.specs.Call.{after_of, answer_of}
use Rattle.op_table.specs.CallTests.{does_write}
use Rattle.op_table.proofs.CallKinds.{unwritten_keeps_value}
use Rattle.place_core.specs.declared.entry.Entry.{Entry}
use Rattle.place_core.specs.declared.shape.Shape.{Shape}
use Rattle.place_core.specs.Shapes.{kind_of}
use Rattle.place_core.specs.PartValues.{AreParts}
use Rattle.place_core.proofs.PartSums.{joined_has_its_parts}
use Rattle.seat_views.specs.declared.view.StepKind.{StepKind}
use Rattle.seat_views.specs.declared.view.StepKind.TheVariants as step
use Rattle.seat_views.specs.declared.view.Item.{Item}
use Rattle.seat_views.specs.declared.view.Flight.{Flight}
use Rattle.seat_views.specs.declared.view.Flight.TheVariants.{Idle, Hold, Glance}
use Rattle.seat_views.specs.Places.{value_after, parts_of, word_of_lock}
use Rattle.seat_views.specs.PartLists.{got}
use Rattle.seat_views.specs.Items.{count_of}
use Rattle.seat_views.specs.Steps.{item, entry}
use Rattle.seat_views.specs.LockSteps.{released, read_in, stamp_in, stored_by, value_read, HoldsClean, HoldsRead, MayRelease}
use Rattle.seat_views.specs.Paths.{eat_just, eat_held}
use Rattle.seat_views.specs.States.{PassState, Appends}
use Rattle.seat_views.specs.LockStates.{TakesLock, Releases}
use Rattle.seat_views.specs.Makes.{MakesEntry}
use Rattle.seat_views.proofs.PathEating.{takes_stretch}
use Rattle.seat_views.proofs.PathPieces.{take_ends, held_joined, held_takes_none}
use Rattle.seq_lock.specs.Holds.{Steps, first_word, with_read, with_put, Took, ReadsAll, PutsAll, MakesHeld, MakesLocked, HoldsWritten}
use Rattle.seq_lock.specs.Once.{TookOnce, FoundHeld, MakesLockedOnce}
use Rattle.seq_lock.proofs.Trails.{numbered, steps_then, steps_flight}

just : (k : StepKind) (w n m : ℕ) → n ≡ m → eat_just k w m (item w k n ∷ []) ≡ Some []
just k w n m e = λ t. if numbered k w w n refl t && eq-eqb n m e t then Some [] else None

-- steps that end with the call's entry
pub entry_made : (p q z : PassState) (T : List Item) (f : Flight) (o : ℕ) (call : Call) (r : Reply) (i : Item) → Steps p T f q → Appends q (entry q.number o call r) i z → MakesEntry o call p r (T ++ i ∷ []) z
entry_made p q z T f o call r i s h = record {
  between = h.between;
  seen = h.seen ∙ (λ t. (let u : PassState = s t in (u.seen ++ h.between) ++ entry u.number o call r ∷ []));
  rest = h.rest ∙ ((λ t. (let u : PassState = s t in record u { seen = z.seen; mine = u.mine ++ entry u.number o call r ∷ []; trail = u.trail ++ i ∷ []; flight = Idle }))
      ∙ ap (λ (l : List Item). record p { seen = z.seen; mine = p.mine ++ entry p.number o call r ∷ []; trail = l; flight = Idle }) (append_assoc p.trail T (i ∷ [])));
  kept = h.kept;
}

-- so are steps before those of a call
pub made_after : (p q z : PassState) (T U : List Item) (f : Flight) (o : ℕ) (call : Call) (r : Reply) → Steps p T f q → MakesEntry o call q r U z → MakesEntry o call p r (T ++ U) z
made_after p q z T U f o call r s h = record {
  between = h.between;
  seen = h.seen ∙ (λ t. (let u : PassState = s t in (u.seen ++ h.between) ++ entry u.number o call r ∷ []));
  rest = h.rest ∙ ((λ t. (let u : PassState = s t in record u { seen = z.seen; mine = u.mine ++ entry u.number o call r ∷ []; trail = u.trail ++ U; flight = Idle }))
      ∙ ap (λ (l : List Item). record p { seen = z.seen; mine = p.mine ++ entry p.number o call r ∷ []; trail = l; flight = Idle }) (append_assoc p.trail T U));
  kept = h.kept;
}

-- steps of no entry leave every value
value_at : (p q : PassState) (S : Shape) (o : ℕ) (T : List Item) (f : Flight) (between : List Entry) → Steps p T f q
    → value_after S (p.seen ++ between) o ≡ value_after S (q.seen ++ between) o
value_at p q S o T f between s = ap (λ (u : PassState). value_after S (u.seen ++ between) o) (sym s)

-- ---- the pieces

-- a lock that was just taken has nothing written under it
pub took_clean : (S : Shape) (o first : ℕ) (p q : PassState) → Took S o first p q → HoldsClean o q.flight
took_clean S o first p q t = subst (HoldsClean o) (sym (steps_flight p q t.steps (Hold o t.stamp [] false []) t.state)) (refl, refl)

-- what stands of the parts as they are counts only once one was written
clean_is : (o : ℕ) (f : Flight) → HoldsClean o f → (now : List (ℕ × ℕ)) × (f ≡ Hold o (stamp_in f) (read_in f) false now)
clean_is o Idle h = absurd h
clean_is o (Glance p stamp read) h = absurd h
clean_is o (Hold p stamp read wrote now) h = (now, λ t. Hold (h.0 t) stamp read (h.1 t) now)

module _ (S : Shape) (o : ℕ) (call : Call) (p : PassState) (v : ℕ) (q : PassState) (clean : HoldsClean o p.flight) (a : ReadsAll S o p v q) where
  held_flight : q.flight ≡ Hold o (stamp_in p.flight) a.read false (clean_is o p.flight clean).0
  held_flight = steps_flight p q a.steps (with_read p.flight a.read) a.state ∙ ap (λ (f : Flight). with_read f a.read) (clean_is o p.flight clean).1

  pub held_read : HoldsRead o (parts_of S o) q.flight
  held_read = subst (HoldsRead o (parts_of S o)) (sym held_flight) (refl, a.known)

  pub held_clean : HoldsClean o q.flight
  held_clean = subst (HoldsClean o) (sym held_flight) (refl, refl)

  pub may_leave : does_write call (answer_of (kind_of S o) call v) ≡ false → MayRelease S o call q.flight
  may_leave quiet = subst (MayRelease S o call) (sym held_flight) (
    refl,
    a.known,
    subst (AreParts S.word_bits (parts_of S o) (got a.read)) (sym a.value_is ∙ (sym (unwritten_keeps_value (kind_of S o) call v quiet) ∙ ap (after_of (kind_of S o) call) a.value_is)) (joined_has_its_parts S.word_bits (parts_of S o) (got a.read) a.small),
  )

  left_replied : (r : Reply) (z : PassState) → does_write call (answer_of (kind_of S o) call v) ≡ false → Releases S o call q r z → MakesHeld S o call p r z
  unfolding entry_made
  left_replied r z quiet h =
      let i : Item = item (word_of_lock S o) step.Release (stored_by q.flight) in
      let read : value_read S o q.flight ≡ v = ap (value_read S o) held_flight ∙ sym a.value_is in
      let replied : r ≡ answer_of (kind_of S o) call v = h.reply ∙ ap (answer_of (kind_of S o) call) read in record {
        steps = a.steps ++ i ∷ [];
        made = entry_made p q z a.steps (with_read p.flight a.read) o call r i a.state h.appends;
        eaten = (λ k. eat_held (word_of_lock S o) (first_word S o) (parts_of S o) ((ap (does_write call) replied ∙ quiet) k) (Some (stamp_in p.flight, sym (append-nil a.steps) k ++ i ∷ [])))
            ∙ held_joined (word_of_lock S o) (first_word S o) (parts_of S o) false (stamp_in p.flight) a.steps [] (i ∷ []) a.eaten refl
            (just step.Release (word_of_lock S o) (stored_by q.flight) (stamp_in p.flight) (ap stored_by held_flight));
        value = v;
        value_is = value_at p q S o a.steps (with_read p.flight a.read) _ a.state ∙ (h.value ∙ read);
        fits = a.fits;
        reply = replied;
      }

  -- the same at the reply to the value that was read
  pub left_made : (r : Reply) (z : PassState) → does_write call (answer_of (kind_of S o) call v) ≡ false → Releases S o call q r z → MakesHeld S o call p (answer_of (kind_of S o) call v) z
  left_made r z quiet h =
      let read : value_read S o q.flight ≡ v = ap (value_read S o) held_flight ∙ sym a.value_is in
      let replied : r ≡ answer_of (kind_of S o) call v = h.reply ∙ ap (answer_of (kind_of S o) call) read in
      subst (λ (x : Reply). MakesHeld S o call p x z) replied (left_replied r z quiet h)

  module _ (new : ℕ) (y : PassState) (b : PutsAll S o q new y) where
    put_flight : y.flight ≡ Hold o (stamp_in p.flight) a.read true b.now
    put_flight = steps_flight q y b.steps (with_put q.flight true b.now) b.state ∙ ap (λ (f : Flight). with_put f true b.now) held_flight

    put_steps : Steps p (a.steps ++ b.steps) (with_put q.flight true b.now) y
    put_steps = steps_then p q y a.steps b.steps (with_read p.flight a.read) (with_put q.flight true b.now) a.state b.state

    pub put_wrote : HoldsWritten o y.flight
    put_wrote = subst (HoldsWritten o) (sym put_flight) (refl, refl)

    pub may_write : new ≡ after_of (kind_of S o) call v → MayRelease S o call y.flight
    may_write is = subst (MayRelease S o call) (sym put_flight) (
      refl,
      a.known,
      subst (AreParts S.word_bits (parts_of S o) (got b.now)) (is ∙ ap (after_of (kind_of S o) call) a.value_is) b.are,
    )

    put_replied : (r : Reply) (z : PassState) → does_write call (answer_of (kind_of S o) call v) ≡ true → Releases S o call y r z → MakesHeld S o call p r z
    unfolding entry_made
    put_replied r z writes h =
        let i : Item = item (word_of_lock S o) step.Release (stored_by y.flight) in
        let read : value_read S o y.flight ≡ v = ap (value_read S o) put_flight ∙ sym a.value_is in
        let replied : r ≡ answer_of (kind_of S o) call v = h.reply ∙ ap (answer_of (kind_of S o) call) read in record {
          steps = (a.steps ++ b.steps) ++ i ∷ [];
          made = entry_made p y z (a.steps ++ b.steps) (with_put q.flight true b.now) o call r i put_steps h.appends;
          eaten = (λ k. eat_held (word_of_lock S o) (first_word S o) (parts_of S o) ((ap (does_write call) replied ∙ writes) k) (Some (stamp_in p.flight, (a.steps ++ b.steps) ++ i ∷ [])))
              ∙ held_joined (word_of_lock S o) (first_word S o) (parts_of S o) true (stamp_in p.flight) a.steps b.steps (i ∷ []) a.eaten b.eaten
              (just step.Release (word_of_lock S o) (stored_by y.flight) (released true (stamp_in p.flight)) (ap stored_by put_flight));
          value = v;
          value_is = value_at p y S o (a.steps ++ b.steps) (with_put q.flight true b.now) _ put_steps ∙ (h.value ∙ read);
          fits = a.fits;
          reply = replied;
        }

    pub put_made : (r : Reply) (z : PassState) → does_write call (answer_of (kind_of S o) call v) ≡ true → Releases S o call y r z → MakesHeld S o call p (answer_of (kind_of S o) call v) z
    put_made r z writes h =
        let read : value_read S o y.flight ≡ v = ap (value_read S o) put_flight ∙ sym a.value_is in
        let replied : r ≡ answer_of (kind_of S o) call v = h.reply ∙ ap (answer_of (kind_of S o) call) read in
        subst (λ (x : Reply). MakesHeld S o call p x z) replied (put_replied r z writes h)

-- ---- the takes, and what follows them

-- one take
pub took_once : (S : Shape) (o first : ℕ) (p q : PassState) (won : Bool) → TakesLock S o first p won q → MatchBool won (TookOnce S o first p q) (FoundHeld S o p q)
took_once S o first p q true t = let m = t.moved in let i : Item = item (word_of_lock S o) step.Take t.found in record {
  took = record {
    steps = i ∷ [];
    stamp = t.found;
    eaten = take_ends (word_of_lock S o) i [] (numbered step.Take (word_of_lock S o) (word_of_lock S o) t.found refl) t.won_is;
    even = t.even t.won_is;
    found = t.stamp t.won_is;
    state = m.now ∙ (λ k. record p { trail = p.trail ++ i ∷ []; flight = if ne_eqb t.found 1 t.won_is k then Idle else Hold o t.found [] false [] });
    kept = m.kept;
  };
  once = refl;
}
took_once S o first p q false t = let m = t.moved in record {
  state = m.now
      ∙ ((λ k. record p { trail = p.trail ++ item (word_of_lock S o) step.Take t.found ∷ []; flight = if eq-eqb t.found 1 t.won_is k then Idle else Hold o t.found [] false [] })
      ∙ (λ k. record p { trail = p.trail ++ item (word_of_lock S o) step.Take (t.won_is k) ∷ []; flight = Idle }));
  kept = m.kept;
}

module _ (S : Shape) (o first : ℕ) (call : Call) (p q : PassState) (r : Reply) (z : PassState) where
  pub taken_made : Took S o first p q → MakesHeld S o call q r z → MakesLocked S o call p r z
  unfolding made_after
  taken_made t h =
      let stamp : stamp_in q.flight ≡ t.stamp = ap stamp_in (steps_flight p q t.steps (Hold o t.stamp [] false []) t.state) in record {
        steps = t.steps ++ h.steps;
        made = made_after p q z t.steps h.steps (Hold o t.stamp [] false []) o call r t.state h.made;
        eaten = ap (eat_held (word_of_lock S o) (first_word S o) (parts_of S o) (does_write call r)) (takes_stretch (word_of_lock S o) t.steps t.stamp [] h.steps t.eaten)
            ∙ (ap (λ (n : ℕ). eat_held (word_of_lock S o) (first_word S o) (parts_of S o) (does_write call r) (Some (n, h.steps))) (sym stamp) ∙ h.eaten);
        value = h.value;
        value_is = value_at p q S o t.steps (Hold o t.stamp [] false []) _ t.state ∙ h.value_is;
        fits = h.fits;
        reply = h.reply;
      }

  pub once_made : TookOnce S o first p q → MakesHeld S o call q r z → MakesLockedOnce S o call p r z
  unfolding taken_made
  once_made t h = record {
    locked = taken_made t.took h;
    once = (let k = t.took in
        let none = held_takes_none (word_of_lock S o) (first_word S o) (parts_of S o) (does_write call r) (stamp_in q.flight) h.steps h.eaten in
        let one : count_of step.Take (k.steps ++ h.steps) ≡ 1 + count_of step.Take h.steps = ap (λ (l : List Item). count_of step.Take (l ++ h.steps)) t.once in omega arith);
  }
