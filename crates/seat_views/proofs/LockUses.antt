-- What callers of the steps on two parts of 64 bits use.
use Rattle.std.proofs.Common.{Some, ◌≡◌, ◌≢◌, ◌⊎◌, inl, inr, ⊎_elim, ℕ, zero, suc, ◌+◌, ◌*◌, ◌≤◌, ◌<◌, ◌^◌, ◌==◌, Bool, true, false, if◌then◌else◌, List, [], ◌∷◌, ◌++◌, refl, ap, sym, ◌∙◌, subst, arith, eq-eqb, ne_eqb}
use Rattle.std.specs.Prelude.{MatchBool}
use mathlib.Core.Logic.{dite}
use native.Mathlib.Decide.{ℕ_discrete}
use Rattle.op_table.specs.declared.call.Call.{Call}
use Rattle.op_table.specs.declared.call.Reply.{Reply}
use Rattle.place_core.specs.declared.entry.Entry.{Entry}
use Rattle.seat_views.specs.declared.view.Item.{Item}
use Rattle.op_table.specs.declared.call.Call.TheVariants.{Load, Store}
use Rattle.place_core.specs.declared.shape.Shape.{Shape}
use Rattle.place_core.specs.PartValues.{part_of, joined, AreParts}
use Rattle.place_core.specs.Shapes.{place_of}
use Rattle.place_core.proofs.PartSums.{joined_has_its_parts}
use Rattle.seat_views.specs.declared.view.Flight.{Flight}
use Rattle.seat_views.specs.declared.view.Flight.TheVariants.{Idle, Hold, Glance}
use Rattle.seat_views.specs.Places.{lock_in, HasParts, parts_of}
use Rattle.seat_views.specs.Stamps.{entries_under}
use Rattle.seat_views.specs.PartLists.{look_up, or_zero, got, HasAll}
use Rattle.seat_views.specs.Limits.{last_stamp}
use Rattle.seat_views.specs.LockSteps.{read_more, write_more, HoldsClean, HoldsRead, MayRelease, GlancesAt, GlancesRead}
use Rattle.seat_views.specs.States.{ArenaState, PassState, IsOf, Moved, Appends, Opens}
use Rattle.seat_views.specs.LockStates.{TakesLock, ReadsHeld, PutsPart, Releases, ReadsStamp, ReadsPart}
use Rattle.seat_views.specs.Trials.{SeesParts, IsReady, HasTwoParts, IsTaken, HasRead, HasWritten, IsGlanced, HasGlanced}
use Rattle.seat_views.proofs.ShapePlaces.{count_is}
use Rattle.seat_views.proofs.StampFacts.{under_none}

pub record TwoParts (S : Shape) (o : ℕ) : Type 0 where
  pub has : HasParts S o
  pub count : parts_of S o ≡ 2

pub two_parts : (S : Shape) (o : ℕ) → HasTwoParts S o → TwoParts S o
two_parts S o h = record { has = record { lock = h.lock; first = h.first; count = 2; bits = 64; place = h.place }; count = count_is S o h.lock h.first 2 64 h.place }

-- both parts are known
both_known : (low high : ℕ) (rest : List (ℕ × ℕ)) → HasAll 2 ((1, high) ∷ (0, low) ∷ rest)
both_known low high rest zero lt = refl
both_known low high rest (suc zero) lt = refl
both_known low high rest (suc (suc i)) lt = absurd (omega arith)

module _ (a : ArenaState) (o : ℕ) (two : HasTwoParts a.shape o) where
  count_two : parts_of a.shape o ≡ 2
  count_two = count_is a.shape o two.lock two.first 2 64 two.place

  pub moved_of : (p q : PassState) (i : Item) (f : Flight) → IsOf a p → Moved p i f q → IsOf a q
  moved_of p q i f of m = (ap (λ (x : PassState). x.arena) m.now ∙ of.0, ap (λ (x : PassState). x.shape) m.now ∙ of.1)

  flight_of : (p q : PassState) (i : Item) (f : Flight) → Moved p i f q → q.flight ≡ f
  flight_of p q i f m = ap (λ (x : PassState). x.flight) m.now

  -- ---- a lock taken

  -- where a root gets a lock at once, it finds the stamp that the arena was opened with
  pub finds_first : (first : ℕ) (p q : PassState) (b : Bool) → Opens a.shape first a p → TakesLock a.shape o a.first_stamp p b q
      → MatchBool b (q.flight ≡ Hold o first [] false []) (q.flight ≡ Idle)
  finds_first first p q false opens t = flight_of p q _ _ t.moved
      ∙ ap (λ (b : Bool). if b then Idle else Hold o t.found [] false []) (eq-eqb t.found 1 t.won_is)
  finds_first first p q true opens t =
      let s = t.stamp t.won_is in
      let l : ℕ = lock_in (place_of a.shape o) in
      let alone : s.between ≡ [] =
      s.alone (ap (λ (x : PassState). x.number) opens.root) (ap (λ (x : PassState). x.given) opens.root) in
      let none : p.seen ++ s.between ≡ [] = (λ i. (let x : PassState = opens.root i in x.seen ++ alone i)) in
      let count : entries_under a.shape l (p.seen ++ s.between) ≡ 0 = ap (entries_under a.shape l) none ∙ under_none a.shape l in
      let most : t.found ≤ a.first_stamp + 2 * 0 = subst (λ (z : ℕ). t.found ≤ a.first_stamp + 2 * z) count s.most in
      let least : a.first_stamp ≤ t.found = s.least in
      let same : t.found ≡ a.first_stamp = omega arith in
      flight_of p q _ _ t.moved
      ∙ (ap (λ (b : Bool). if b then Idle else Hold o t.found [] false []) (ne_eqb t.found 1 t.won_is)
      ∙ ap (λ (z : ℕ). Hold o z [] false []) (same ∙ opens.first_stamp))

  pub takes : (p q : PassState) (b : Bool) → IsReady a p → TakesLock a.shape o a.first_stamp p b q → MatchBool b (IsTaken a o q) (IsReady a q)
  takes p q true r t = record { of = moved_of p q _ _ r.of t.moved; stamp = t.found; flight = flight_of p q _ _ t.moved ∙ ap (λ (b : Bool). if b then Idle else Hold o t.found [] false []) (ne_eqb t.found 1 t.won_is) }
  takes p q false r t = record { of = moved_of p q _ _ r.of t.moved; rest = flight_of p q _ _ t.moved ∙ ap (λ (b : Bool). if b then Idle else Hold o t.found [] false []) (eq-eqb t.found 1 t.won_is) }

  pub clean_taken : (p : PassState) → IsTaken a o p → HoldsClean o p.flight
  clean_taken p t = subst (HoldsClean o) (sym t.flight) (refl, refl)

  pub clean_read : (p q : PassState) (n : ℕ) → IsTaken a o p → ReadsHeld a.shape o 0 p n q → HoldsClean o q.flight
  clean_read p q n t h = subst (HoldsClean o) (sym (flight_of p q _ _ h.moved ∙ ap (λ (f : Flight). read_more f 0 n) t.flight)) (refl, refl)

  small_is : (n : ℕ) → n < 2 ^ a.shape.word_bits → n < 2 ^ 64
  small_is n lt = subst (λ (z : ℕ). n < 2 ^ z) two.bits lt

  pub reads_both : (p q r : PassState) (low high : ℕ) → IsTaken a o p → ReadsHeld a.shape o 0 p low q → ReadsHeld a.shape o 1 q high r → HasRead a o r
  reads_both p q r low high t h k = record {
    of = moved_of q r _ _ (moved_of p q _ _ t.of h.moved) k.moved;
    stamp = t.stamp;
    low = low;
    high = high;
    low_fits = small_is low h.small;
    high_fits = small_is high k.small;
    flight = flight_of q r _ _ k.moved ∙ ap (λ (f : Flight). read_more f 1 high) (flight_of p q _ _ h.moved ∙ ap (λ (f : Flight). read_more f 0 low) t.flight);
  }

  pub holds_read : (p : PassState) → HasRead a o p → HoldsRead o (parts_of a.shape o) p.flight
  holds_read p r = subst (λ (x : ℕ × Flight). HoldsRead o x.0 x.1) (λ i. (sym count_two i, sym r.flight i)) (refl, both_known r.low r.high [])

  pub holds_put : (p q : PassState) (n : ℕ) → HasRead a o p → PutsPart a.shape o 0 p n q → HoldsRead o (parts_of a.shape o) q.flight
  holds_put p q n r h = subst (λ (x : ℕ × Flight). HoldsRead o x.0 x.1) (λ i. (sym count_two i, sym (flight_of p q _ _ h.moved ∙ ap (λ (f : Flight). write_more f 0 n) r.flight) i)) (refl, both_known r.low r.high [])

  pub puts_both : (v : ℕ) (p q r : PassState) (low high : ℕ) → low ≡ part_of 64 0 v → high ≡ part_of 64 1 v → HasRead a o p → PutsPart a.shape o 0 p low q → PutsPart a.shape o 1 q high r → HasWritten a o v r
  puts_both v p q r low high low_is high_is t h k = record {
    of = moved_of q r _ _ (moved_of p q _ _ t.of h.moved) k.moved;
    stamp = t.stamp;
    low = t.low;
    high = t.high;
    flight = flight_of q r _ _ k.moved ∙ (ap (λ (f : Flight). write_more f 1 high) (flight_of p q _ _ h.moved ∙ ap (λ (f : Flight). write_more f 0 low) t.flight)
        ∙ λ i. Hold o t.stamp ((1, t.high) ∷ (0, t.low) ∷ []) true ((1, high_is i) ∷ (0, low_is i) ∷ (1, t.high) ∷ (0, t.low) ∷ []));
  }

  both_small : (low high : ℕ) → low < 2 ^ 64 → high < 2 ^ 64 → (i : ℕ) → i < 2 → got ((1, high) ∷ (0, low) ∷ []) i < 2 ^ 64
  both_small low high l h zero lt = l
  both_small low high l h (suc zero) lt = h
  both_small low high l h (suc (suc i)) lt = absurd (omega arith)

  pub may_load : (p : PassState) → HasRead a o p → MayRelease a.shape o Load p.flight
  may_load p r = let read : List (ℕ × ℕ) = (1, r.high) ∷ (0, r.low) ∷ [] in
      subst (MayRelease a.shape o Load) (sym r.flight) (
        refl,
        subst (λ (x : ℕ). HasAll x read) (sym count_two) (both_known r.low r.high []),
        subst (λ (x : ℕ × ℕ). AreParts x.0 x.1 (got read) (joined x.0 (got read) x.1)) (λ i. (sym two.bits i, sym count_two i)) (joined_has_its_parts 64 2 (got read) (both_small r.low r.high r.low_fits r.high_fits)),
      )

  both_are : (v low high : ℕ) → AreParts 64 2 (got ((1, part_of 64 1 v) ∷ (0, part_of 64 0 v) ∷ (1, high) ∷ (0, low) ∷ [])) v
  both_are v low high zero lt = refl
  both_are v low high (suc zero) lt = refl
  both_are v low high (suc (suc i)) lt = absurd (omega arith)

  pub may_store : (v : ℕ) (p : PassState) → HasWritten a o v p → MayRelease a.shape o (Store v) p.flight
  may_store v p w = let read : List (ℕ × ℕ) = (1, w.high) ∷ (0, w.low) ∷ [] in
      subst (MayRelease a.shape o (Store v)) (sym w.flight) (
        refl,
        subst (λ (x : ℕ). HasAll x read) (sym count_two) (both_known w.low w.high []),
        subst (λ (x : ℕ × ℕ). AreParts x.0 x.1 (got ((1, part_of 64 1 v) ∷ (0, part_of 64 0 v) ∷ (1, w.high) ∷ (0, w.low) ∷ [])) v) (λ i. (sym two.bits i, sym count_two i)) (both_are v w.low w.high),
      )

  pub appended : (p q : PassState) (x : Entry) (i : Item) → IsOf a p → Appends p x i q → IsReady a q
  appended p q x i of m = record { of = (ap (λ (y : PassState). y.arena) m.rest ∙ of.0, ap (λ (y : PassState). y.shape) m.rest ∙ of.1); rest = ap (λ (y : PassState). y.flight) m.rest }

  pub loaded : (p q : PassState) (call : Call) (r : Reply) → IsOf a p → Releases a.shape o call p r q → IsReady a q
  loaded p q call r of h = appended p q _ _ of h.appends

  -- ---- a glance

  pub stamps : (p q : PassState) (n : ℕ) → IsReady a p → ReadsStamp a.shape o a.first_stamp p n q → (b : Bool) → (b ≡ true → (n ≢ 1) × (n ≢ last_stamp)) → (b ≡ false → (n ≡ 1) ⊎ (n ≡ last_stamp)) → MatchBool b (IsGlanced a o q) (IsReady a q)
  stamps p q n r h true yes_it not_it = let ne = yes_it refl in record {
    of = moved_of p q _ _ r.of h.moved;
    stamp = n;
    flight = flight_of p q _ _ h.moved ∙ (λ i. if ne_eqb n 1 ne.0 i then Idle else (if ne_eqb n last_stamp ne.1 i then Idle else Glance o n []));
  }
  stamps p q n r h false yes_it not_it = record {
    of = moved_of p q _ _ r.of h.moved;
    rest = flight_of p q _ _ h.moved ∙ go (n == 1) (n == last_stamp)
        (⊎_elim (λ (e : n ≡ 1). inl (eq-eqb n 1 e)) (λ (e : n ≡ last_stamp). inr (eq-eqb n last_stamp e)) (not_it refl));
  }
    where
      go : (x y : Bool) → (x ≡ true) ⊎ (y ≡ true) → (if x then Idle else (if y then Idle else Glance o n [])) ≡ Idle
      go true y e = refl
      go false true e = refl
      go false false e = ⊎_elim (λ (t : false ≡ true). absurd cc) (λ (t : false ≡ true). absurd cc) e

  pub at_glance : (p : PassState) → IsGlanced a o p → GlancesAt o p.flight
  at_glance p t = subst (GlancesAt o) (sym t.flight) refl

  pub at_read : (p q : PassState) (n : ℕ) → IsGlanced a o p → ReadsPart a.shape o 0 p n q → GlancesAt o q.flight
  at_read p q n t h = subst (GlancesAt o) (sym (flight_of p q _ _ h.moved ∙ ap (λ (f : Flight). read_more f 0 n) t.flight)) refl

  pub sees_both : (p q r : PassState) (low high : ℕ) → IsGlanced a o p → ReadsPart a.shape o 0 p low q → ReadsPart a.shape o 1 q high r → HasGlanced a o r
  sees_both p q r low high t h k = record {
    of = moved_of q r _ _ (moved_of p q _ _ t.of h.moved) k.moved;
    stamp = t.stamp;
    low = low;
    high = high;
    flight = flight_of q r _ _ k.moved ∙ ap (λ (f : Flight). read_more f 1 high) (flight_of p q _ _ h.moved ∙ ap (λ (f : Flight). read_more f 0 low) t.flight);
  }

  pub glance_read : (p : PassState) → HasGlanced a o p → GlancesRead o (parts_of a.shape o) p.flight
  glance_read p r = subst (λ (x : ℕ × Flight). GlancesRead o x.0 x.1) (λ i. (sym count_two i, sym r.flight i)) (refl, both_known r.low r.high [])

-- ---- a glance at any number of parts

pub known_more : (n m : ℕ) (read : List (ℕ × ℕ)) → HasAll n read → HasAll (n + 1) ((n, m) ∷ read)
known_more n m read all i lt = dite (ℕ_discrete i n)
    (λ e. ap (λ (b : Bool). if b then Some m else look_up i read) (eq-eqb i n e) ∙ sym (ap (λ (b : Bool). Some (or_zero (if b then Some m else look_up i read))) (eq-eqb i n e)))
    (λ ne. ap (λ (b : Bool). if b then Some m else look_up i read) (ne_eqb i n ne) ∙ (all i (omega arith) ∙ sym (ap (λ (b : Bool). Some (or_zero (if b then Some m else look_up i read))) (ne_eqb i n ne))))

module _ (a : ArenaState) (o : ℕ) where
  pub stamps_any : (p q : PassState) (n : ℕ) → IsReady a p → ReadsStamp a.shape o a.first_stamp p n q → n ≢ 1 → n ≢ last_stamp → SeesParts a o 0 q
  stamps_any p q n r h ne far = record {
    of = (let m = h.moved in (ap (λ (x : PassState). x.arena) m.now ∙ r.of.0, ap (λ (x : PassState). x.shape) m.now ∙ r.of.1));
    stamp = n;
    read = [];
    known = λ i lt. absurd (omega arith);
    flight = (let m = h.moved in ap (λ (x : PassState). x.flight) m.now ∙ (λ i. if ne_eqb n 1 ne i then Idle else (if ne_eqb n last_stamp far i then Idle else Glance o n [])));
  }

  pub sees_at : (n : ℕ) (p : PassState) → SeesParts a o n p → GlancesAt o p.flight
  sees_at n p s = subst (GlancesAt o) (sym s.flight) refl

  pub sees_more : (n m : ℕ) (p q : PassState) → SeesParts a o n p → ReadsPart a.shape o n p m q → SeesParts a o (n + 1) q
  sees_more n m p q s h = record {
    of = (let k = h.moved in (ap (λ (x : PassState). x.arena) k.now ∙ s.of.0, ap (λ (x : PassState). x.shape) k.now ∙ s.of.1));
    stamp = s.stamp;
    read = (n, m) ∷ s.read;
    known = known_more n m s.read s.known;
    flight = (let k = h.moved in ap (λ (x : PassState). x.flight) k.now ∙ ap (λ (f : Flight). read_more f n m) s.flight);
  }

  pub sees_all : (n : ℕ) (p : PassState) → n ≡ parts_of a.shape o → SeesParts a o n p → GlancesRead o (parts_of a.shape o) p.flight
  sees_all n p e s = subst (λ (x : ℕ × Flight). GlancesRead o x.0 x.1) (λ i. (e i, sym s.flight i)) (refl, s.known)
