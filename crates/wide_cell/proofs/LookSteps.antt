-- The steps of a glance, one after another.
use Rattle.std.proofs.Common.{◌≡◌, ◌≢◌, ℕ, suc, ◌+◌, ◌==◌, Bool, true, false, if◌then◌else◌, List, [], ◌∷◌, ◌++◌, Option, Some, None, refl, ap, sym, ◌∙◌, subst, arith, ne_eqb}
use Rattle.std.specs.Prelude.{◌||◌, Result, Ok, Err, IfOk, IfErr}
use Rattle.op_table.specs.declared.call.Call.TheVariants.{Load}
use Rattle.op_table.specs.declared.call.Reply.TheVariants.{Value}
use Rattle.place_core.specs.declared.places.Place.{Place}
use Rattle.place_core.specs.declared.places.Place.TheVariants.{Lane, Parts}
use Rattle.place_core.specs.declared.shape.Shape.{Shape}
use Rattle.place_core.specs.Shapes.{place_of, data_word, lock_word}
use Rattle.seat_views.specs.declared.view.Item.{Item}
use Rattle.seat_views.specs.declared.view.Flight.{Flight}
use Rattle.seat_views.specs.declared.view.Flight.TheVariants.{Idle, Glance}
use Rattle.seat_views.specs.declared.view.StepKind.TheVariants as step
use Rattle.seat_views.specs.Places.{lock_in, first_in, count_in, HasParts, parts_of, word_of_lock, word_of_part}
use Rattle.seat_views.specs.Steps.{item}
use Rattle.seat_views.specs.Limits.{last_stamp}
use Rattle.seat_views.specs.LockSteps.{stamped_flight, stamp_in, read_more, GlancesAt, GlancesRead}
use Rattle.seat_views.specs.Paths.{and_then, eat_run, eat_match, eat_glance, IsGlanceAt, IsGlance}
use Rattle.seat_views.specs.States.{ArenaState, PassState, IsOf}
use Rattle.seat_views.specs.LockStates.{ReadsStamp, ReadsPart, Matches}
use Rattle.seat_views.proofs.LockUses.{known_more}
use Rattle.seat_views.proofs.PathEating.{run_stretches, run_snoc}
use Rattle.seq_lock.specs.declared.glances.Missed.{Missed}
use Rattle.seq_lock.specs.declared.glances.Missed.TheVariants.{Held, Moved, Last}
use Rattle.seq_lock.specs.Holds.{first_word}
use Rattle.seq_lock.specs.Glances.{Begins, BeginsNot, EndsNot}
use Rattle.seq_lock.proofs.LockedCalls.{entry_made}
use Rattle.seq_lock.proofs.Trails.{numbered, step_more, steps_of, steps_flight}
use Rattle.wide_cell.specs.Looks.{IsWhole, Looking, GlanceHits, MissedBy, GlanceMisses}

abbrev all_rest : List Item → Option (List Item)
all_rest U = Some U

-- ---- which steps are a glance

abbrev nothing : Option (List Item)
nothing = Some []

either : (b : Bool) → (if b then nothing else nothing) ≡ nothing
either true = refl
either false = refl

whole_eaten : (lock first n f s : ℕ) (parts : List Item) → f ≢ 1 → f ≢ last_stamp → eat_run step.Part first n parts ≡ Some []
    → eat_glance lock first n all_rest (item lock step.Stamp f ∷ (parts ++ item lock step.Match s ∷ [])) ≡ Some []
whole_eaten lock first n f s parts free going run =
    let i : Item = item lock step.Match s in
    (λ t. if numbered step.Stamp lock lock f refl t then (if ne_eqb f 1 free t || ne_eqb f last_stamp going t then Some (parts ++ i ∷ []) else and_then (eat_run step.Part first n (parts ++ i ∷ [])) (eat_match lock f all_rest)) else None)
    ∙ (ap (λ (z : Option (List Item)). and_then z (eat_match lock f all_rest)) (run_stretches step.Part first n parts [] (i ∷ []) run)
    ∙ ((λ t. if numbered step.Match lock lock s refl t then (if s == f then Some [] else Some []) else None) ∙ either (s == f)))

alone_eaten : (lock first n f : ℕ) → ((f == 1) || (f == last_stamp)) ≡ true → eat_glance lock first n all_rest (item lock step.Stamp f ∷ []) ≡ Some []
alone_eaten lock first n f none = λ t. if numbered step.Stamp lock lock f refl t then (if none t then Some [] else and_then (eat_run step.Part first n []) (eat_match lock f all_rest)) else None

glance_at : (S : Shape) (z : Option Place) (l f n b : ℕ) → z ≡ Some (Parts l f n b) → (T : List Item) → eat_glance (lock_word S (lock_in z)) (data_word (first_in z)) (count_in z) all_rest T ≡ Some [] → IsGlanceAt S z T
glance_at S None l f n b e T eaten = absurd cc
glance_at S (Some (Lane w s d)) l f n b e T eaten = absurd cc
glance_at S (Some (Parts k g m c)) l f n b e T eaten = eaten

module _ (S : Shape) (o : ℕ) (has : HasParts S o) where
  pub whole_glance : (f s : ℕ) (T : List Item) → IsWhole S o f s T → IsGlance S o T
  whole_glance f s T w = subst (IsGlance S o) (sym w.split)
      (glance_at S (place_of S o) has.lock has.first has.count has.bits has.place _ (whole_eaten (word_of_lock S o) (first_word S o) (parts_of S o) f s w.parts w.free w.going w.run))

  alone_glance : (f : ℕ) → ((f == 1) || (f == last_stamp)) ≡ true → IsGlance S o (item (word_of_lock S o) step.Stamp f ∷ [])
  alone_glance f none = glance_at S (place_of S o) has.lock has.first has.count has.bits has.place _ (alone_eaten (word_of_lock S o) (first_word S o) (parts_of S o) f none)

  -- ---- a glance that didn't begin

  alone_missed : (m : Missed) (first f : ℕ) (p q : PassState) → ((f == 1) || (f == last_stamp)) ≡ true → stamped_flight o f ≡ Idle → MissedBy S o m (item (word_of_lock S o) step.Stamp f ∷ []) → ReadsStamp S o first p f q → GlanceMisses S o p m q
  alone_missed m first f p q none idle why h = let k = h.moved in record {
    steps = item (word_of_lock S o) step.Stamp f ∷ [];
    why = why;
    glance = alone_glance f none;
    state = k.now ∙ (λ t. record p { trail = p.trail ++ item (word_of_lock S o) step.Stamp f ∷ []; flight = idle t });
    kept = k.kept;
  }

  pub not_begun : (m : Missed) (first : ℕ) (p q : PassState) → BeginsNot S o first p m q → GlanceMisses S o p m q
  not_begun Held first p q h = alone_missed Held first 1 p q refl refl refl h
  not_begun (Moved one two) first p q h = absurd h
  not_begun Last first p q h = alone_missed Last first last_stamp p q refl refl refl h

  -- ---- a glance that began

  pub looking_none : (first : ℕ) (p q : PassState) (n : ℕ) → Begins S o first p n q → Looking S o p 0 q
  looking_none first p q n b = let h = b.stamp in let k = h.moved in record {
    stamp = n;
    free = b.free;
    going = b.going;
    parts = [];
    read = [];
    known = λ j lt. absurd (omega arith);
    run = refl;
    state = k.now ∙ (λ t. record p { trail = p.trail ++ item (word_of_lock S o) step.Stamp n ∷ []; flight = (sym (ap (λ (z : PassState). z.flight) k.now) ∙ b.flight) t });
  }

  module _ (p : PassState) (i : ℕ) (q : PassState) (t : Looking S o p i q) where
    first : Item
    first = item (word_of_lock S o) step.Stamp t.stamp

    pub looking_of : (a : ArenaState) → IsOf a p → IsOf a q
    looking_of a of = steps_of a p q (item (word_of_lock S o) step.Stamp t.stamp ∷ t.parts) (Glance o t.stamp t.read) of t.state

    looking_flight : q.flight ≡ Glance o t.stamp t.read
    looking_flight = steps_flight p q (item (word_of_lock S o) step.Stamp t.stamp ∷ t.parts) (Glance o t.stamp t.read) t.state

    pub looking_at : GlancesAt o q.flight
    looking_at = subst (GlancesAt o) (sym looking_flight) refl

    pub looking_more : (r : PassState) (n : ℕ) → ReadsPart S o i q n r → Looking S o p (i + 1) r
    looking_more r n h =
        let it : Item = item (word_of_part S o i) step.Part n in
        let up : suc i ≡ i + 1 = omega arith in record {
          stamp = t.stamp;
          free = t.free;
          going = t.going;
          parts = t.parts ++ it ∷ [];
          read = (i, n) ∷ t.read;
          known = known_more i n t.read t.known;
          run = subst (λ (z : ℕ). eat_run step.Part (first_word S o) z (t.parts ++ it ∷ []) ≡ Some []) up
              (run_snoc step.Part (first_word S o) i t.parts it t.run (numbered step.Part (word_of_part S o i) (first_word S o + i) n (omega arith)));
          state = step_more p q r (item (word_of_lock S o) step.Stamp t.stamp ∷ t.parts) (Glance o t.stamp t.read) (read_more q.flight i n) it (Glance o t.stamp ((i, n) ∷ t.read)) t.state h.moved
              (ap (λ (f : Flight). read_more f i n) looking_flight);
        }

  module _ (p : PassState) (i : ℕ) (q : PassState) (count : i ≡ parts_of S o) (seen : Looking S o p i q) where
    t : Looking S o p (parts_of S o) q
    t = subst (λ (z : ℕ). Looking S o p z q) count seen

    pub looking_read : GlancesRead o (parts_of S o) q.flight
    looking_read = let u : Looking S o p (parts_of S o) q = subst (λ (z : ℕ). Looking S o p z q) count seen in
        subst (GlancesRead o (parts_of S o)) (sym (looking_flight p (parts_of S o) q u)) (refl, u.known)

    pub looking_hit : (v : ℕ) (r : PassState) → Matches S o q v r → GlanceHits S o p v r
    looking_hit v r h = let u : Looking S o p (parts_of S o) q = subst (λ (z : ℕ). Looking S o p z q) count seen in
        let start : Item = item (word_of_lock S o) step.Stamp u.stamp in
        let found : stamp_in q.flight ≡ u.stamp = ap stamp_in (looking_flight p (parts_of S o) q u) in
        let last : Item = item (word_of_lock S o) step.Match (stamp_in q.flight) in
        let whole : IsWhole S o u.stamp u.stamp ((start ∷ u.parts) ++ last ∷ []) = record { parts = u.parts; free = u.free; going = u.going; run = u.run; split = λ k. start ∷ (u.parts ++ item (word_of_lock S o) step.Match (found k) ∷ []) } in record {
          steps = (start ∷ u.parts) ++ last ∷ [];
          stamp = u.stamp;
          whole = whole;
          glance = whole_glance u.stamp u.stamp _ whole;
          made = entry_made p q r (start ∷ u.parts) (Glance o u.stamp u.read) o Load (Value v) last u.state h.appends;
        }

    pub looking_missed : (m : Missed) (r : PassState) → EndsNot S o q m r → GlanceMisses S o p m r
    looking_missed Held r h = absurd h
    looking_missed Last r h = absurd h
    looking_missed (Moved x y) r h = let u : Looking S o p (parts_of S o) q = subst (λ (z : ℕ). Looking S o p z q) count seen in
        let start : Item = item (word_of_lock S o) step.Stamp u.stamp in
        let found : x ≡ u.stamp = h.0 ∙ ap stamp_in (looking_flight p (parts_of S o) q u) in
        let k = h.1 in let m = k.moved in
        let last : Item = item (word_of_lock S o) step.Match y in
        let whole : IsWhole S o x y ((start ∷ u.parts) ++ last ∷ []) = subst (λ (z : ℕ). IsWhole S o z y ((start ∷ u.parts) ++ last ∷ [])) (sym found) record { parts = u.parts; free = u.free; going = u.going; run = u.run; split = refl } in record {
          steps = (start ∷ u.parts) ++ last ∷ [];
          why = (whole, λ same. k.differs (sym same ∙ h.0));
          glance = whole_glance x y _ whole;
          state = step_more p q r (start ∷ u.parts) (Glance o u.stamp u.read) Idle last Idle u.state k.moved refl;
          kept = m.kept;
        }

    pub end_hit : (r : PassState) (x : Result ℕ Missed) → IfOk x (λ v. Matches S o q v r) → IfOk x (λ v. GlanceHits S o p v r)
    end_hit r (Ok v) h = looking_hit v r h
    end_hit r (Err m) h = tt

    pub end_missed : (r : PassState) (x : Result ℕ Missed) → IfErr x (λ m. EndsNot S o q m r) → IfErr x (λ m. GlanceMisses S o p m r)
    end_missed r (Ok v) h = tt
    end_missed r (Err m) h = looking_missed m r h
