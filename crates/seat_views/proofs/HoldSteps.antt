-- The steps of a hold keep the rule: the lock is taken, parts are read and written, the lock is given up.
use Rattle.std.proofs.Common.{inl, ◌≡◌, ◌≢◌, ⊎_elim, ℕ, ◌≤◌, ◌<◌, ◌+◌, ◌*◌, ◌/◌, ◌%◌, ◌^◌, Bool, true, false, if◌then◌else◌, List, [], ◌∷◌, ◌++◌, length, set, get_or, refl, ap, sym, ◌∙◌, subst, arith, Some, None, length-set, get_or-set_other, get_or-set_same, eq-eqb, ne_eqb}
use Rattle.std.specs.Prelude.{slice_index}
use Rattle.std.proofs.lemmas.List.{set-get_or}
use Rattle.std.proofs.Math.Nat.{mod-le, div-le_self}
use mathlib.Core.Option.{some}
use mathlib.Core.Logic.{dite}
use native.Mathlib.Decide.{ℕ_discrete}
use lib.ListN.{get_elem?}
use Rattle.atomic_table.specs.Table.{State, Me, keeps, Allows}
use Rattle.op_table.specs.declared.kind.Kind.{Kind}
use Rattle.op_table.specs.declared.call.Call.{Call}
use Rattle.op_table.specs.declared.call.Reply.{Reply}
use Rattle.op_table.specs.Kind.{values_of}
use Rattle.op_table.specs.Call.{after_of, answer_of, CallFits}
use Rattle.place_core.specs.declared.entry.Entry.{Entry}
use Rattle.place_core.specs.declared.shape.Shape.{Shape}
use Rattle.place_core.specs.declared.places.Place.TheVariants.{Parts as In}
use Rattle.place_core.specs.Cells.{left_by, effect_of}
use Rattle.place_core.specs.PartValues.{part_of, joined, AreParts}
use Rattle.place_core.specs.Shapes.{place_of, kind_of, cells_of_shape, data_word, lock_word, IsShape}
use Rattle.place_core.proofs.CellValues.{value_of-other, effect_of-answer_of}
use Rattle.place_core.proofs.LegalValues.{value_own, value_fits}
use Rattle.place_core.proofs.PartSums.{parts_join_to_value}
use Rattle.place_core.proofs.WordEntries.{parts_entry_leaves_word}
use Rattle.place_core.proofs.Seats.{set_own, seats_stay}
use Rattle.seat_views.specs.declared.view.Opening.{Opening}
use Rattle.seat_views.specs.declared.view.Role.TheVariants as role
use Rattle.seat_views.specs.declared.view.StepKind.TheVariants as kind
use Rattle.seat_views.specs.declared.view.Item.{Item}
use Rattle.seat_views.specs.declared.view.Flight.{Flight}
use Rattle.seat_views.specs.declared.view.Flight.TheVariants.{Idle, Hold}
use Rattle.seat_views.specs.declared.view.View.{View}
use Rattle.seat_views.specs.Places.{value_after, IsLegalIn, lock_in}
use Rattle.seat_views.specs.Stamps.{entries_under, IsStampIn}
use Rattle.seat_views.specs.PartLists.{got, HasAll}
use Rattle.seat_views.specs.Rule.{Lock, shown, part_in, Fits, HoldFits, KnowsHold, KnowsGlance, HoldsUnder, IsHolder, ArenaHolds}
use Rattle.seat_views.specs.Steps.{Asked, entry, item, grown, moved, GrowsFrom}
use Rattle.seat_views.specs.LockSteps.{object_in, read_more, parts_now, write_more, released, take_tells, held_tells, put_tells}
use Rattle.seat_views.proofs.ShapePlaces.{lane_within, lane_apart, parts_apart, parts_within, parts_hold, one_place, lawful}
use Rattle.seat_views.proofs.Frames.{SameInParts, all_same, flights_of, flights_set, parts_frame, glances_frame, lanes_frame, hold_frame, glance_frame, holder_set, upto_more}
use Rattle.seat_views.proofs.Histories.{pass_known, shape_is, history_adds, history_moved, sound_set}
use Rattle.seat_views.proofs.StampFacts.{under_own, under_more, under_same, stamp_there}
use Rattle.seat_views.proofs.LockFacts.{set_lock, lock_here, lock_else, free_of, lock_same_parts, lock_lanes, lock_shows, each_lock, hold_other, SameBut, hold_but, glance_step, glance_put, glance_log, fits_more, has_more, fits_parts, fits_are, base_of, put_fits, released_even, released_up, released_near}

-- a load, after which the view has another call in flight
pub load_step : (k : Opening) (s : State (Unit {0}) View) (r : ArenaHolds k s) (id : ℕ) (v : View) → get_elem? s.views id ≡ some v → (i : Item) (f : Flight)
    → KnowsHold k.shape r.log r.locks s.words id f → KnowsGlance k.shape r.log r.locks s.words f → ((l : ℕ) → HoldsUnder k.shape l v.flight → HoldsUnder k.shape l f) → (j : ℕ)
    → ArenaHolds k record { words = set s.words j (slice_index s.words j); homes = s.homes; views = set s.views id (moved v i f) }
load_step k s r id v at i f holds glances under j =
    let S : Shape = k.shape in
    let w : View = moved v i f in
    let flights = flights_set S r.log r.locks s.words s.views (flights_of S k.first_stamp r.log r.locks s.words s.views r.parts r.glances) id v at w holds glances under in
    subst (λ (ws : List ℕ). ArenaHolds k record { words = ws; homes = s.homes; views = set s.views id w }) (sym (set-get_or s.words j 0)) record {
      log = r.log;
      count = r.count;
      owner = r.owner;
      locks = r.locks;
      history = history_moved S r.log r.count r.owner s.views r.history id v at i f;
      lanes = r.lanes;
      parts = parts_frame S k.first_stamp r.log r.locks s.words s.views r.parts r.glances r.log s.words (all_same S r.log s.words) (set s.views id w) flights (λ l lt. refl) (under_same S r.log);
      glances = glances_frame S k.first_stamp r.log r.locks s.words s.views r.parts r.glances r.log s.words (all_same S r.log s.words) (set s.views id w) flights;
    }

-- the lock is swapped for 1
pub take_keeps : (k : Opening) → IsShape k.shape → (a : Asked) (l f n b : ℕ) → place_of k.shape a.object ≡ Some (In l f n b) → (slots id : ℕ) (m : Me (Unit {0}) View) → m.0.flight ≡ Idle → a.stamp ≡ k.first_stamp
    → Allows (ArenaHolds k) slots id m (lock_word k.shape l) (λ _. 1) (take_tells a (lock_word k.shape l) m)
take_keeps k ok a l f n b place slots id m rest first_is s r _ at _ =
    let S : Shape = k.shape in
    let o : ℕ = a.object in
    let v : View = m.0 in
    let word : ℕ = lock_word S l in
    let q : ℕ = slice_index s.words word in
    let it : Item = item word kind.Take q in
    let within = parts_within S ok o l f n b place in
    let old = r.parts in
    let locked : q ≡ shown (r.locks l) = old.locked l within.0 in
    dite (ℕ_discrete q 1)
    (λ held. (
      moved v it Idle,
      keeps,
      tt,
      subst (λ (x : ℕ). ArenaHolds k record { words = set s.words word x; homes = s.homes; views = set s.views id (moved v it Idle) }) held
          (load_step k s r id v at it Idle tt tt (λ j u. subst (HoldsUnder S j) rest u) word),
      (refl, ap (λ (c : Bool). moved v it (if c then Idle else Hold o q [] false [])) (sym (eq-eqb q 1 held)), (λ ne. absurd (ne held)), λ ne. absurd (ne held)),
    ))
    (λ not_held.
    let free = free_of (r.locks l) q locked not_held in
    let clean : (r.locks l).dirty ≡ false = old.clean l free.0 in
    let fl : Flight = Hold o q [] false [] in
    let w : View = moved v it fl in
    let c : Lock = record { holder = Some id; stamp = q; dirty = false; object = o } in
    let locks' : ℕ → Lock = set_lock r.locks l c in
    let words' : List ℕ = set s.words word 1 in
    let same : SameInParts S r.log r.log s.words words' = lock_same_parts S ok r.log s.words l 1 in
    let lanes = r.lanes in
    let even : q % 2 ≡ 0 = ap (λ (z : ℕ). z % 2) free.1 ∙ old.even l within.0 in
    let none_holds : (j : ℕ) → (r.locks l).holder ≢ Some j = λ j e. let bad : None ≡ Some j = sym free.0 ∙ e in cc in
    let was_free : (z : ℕ) → HoldsUnder S z v.flight → HoldsUnder S z fl = λ z u. absurd (subst (HoldsUnder S z) rest u) in (
      w,
      keeps,
      tt,
      record {
        log = r.log;
        count = r.count;
        owner = r.owner;
        locks = locks';
        history = history_moved S r.log r.count r.owner s.views r.history id v at it fl;
        lanes = lock_lanes S ok r.log s.words l 1 r.lanes;
        parts = record {
          locked = lock_shows S r.locks s.words l 1 c within.0 lanes.sized refl old.locked;
          even = each_lock (λ i z. i < S.locks → z.stamp % 2 ≡ 0) r.locks l c (λ _. even) (λ i _ lt. old.even i lt);
          from_first = each_lock (λ i z. i < S.locks → k.first_stamp ≤ z.stamp) r.locks l c (λ lt. subst (λ (z : ℕ). k.first_stamp ≤ z) (sym free.1) (old.from_first l lt)) (λ i _ lt. old.from_first i lt);
          upto_first = each_lock (λ i z. i < S.locks → z.stamp ≤ k.first_stamp + 2 * entries_under S i r.log) r.locks l c
              (λ lt. subst (λ (z : ℕ). z ≤ k.first_stamp + 2 * entries_under S l r.log) (sym free.1) (old.upto_first l lt))
              (λ i _ lt. old.upto_first i lt);
          clean = each_lock (λ i z. z.holder ≡ None → z.dirty ≡ false) r.locks l c (λ _. refl) (λ i _ e. old.clean i e);
          holders = each_lock (λ i z. (j : ℕ) → z.holder ≡ Some j → IsHolder S i (set s.views id w) j) r.locks l c
              (λ j e. let is : id ≡ j = cc (e) in record { view = w; there = subst (λ (z : ℕ). get_elem? (set s.views id w) z ≡ some w) is (set_own s.views id w v at); under = (f, n, b, place) })
              (λ i _ j e. holder_set S i s.views id v w at (was_free i) j (old.holders i j e));
          small = λ p x g d e i there lt. let t = same p x g d e there in subst (λ (z : ℕ). z < 2 ^ e) (sym (t.0 i lt)) (old.small p x g d e i there lt);
          spelled = λ p x g d e there may i lt. let t = same p x g d e there in t.0 i lt ∙ old.spelled p x g d e there
              (λ dirty. dite (ℕ_discrete x l)
              (λ is. let bad : true ≡ false = sym dirty ∙ (ap (λ (z : ℕ). (r.locks z).dirty) is ∙ clean) in absurd cc)
              (λ ne. let same_lock = lock_else r.locks l c x ne in subst (λ (z : Lock). z.object ≢ p) same_lock (may (ap (λ (z : Lock). z.dirty) same_lock ∙ dirty)))) i lt;
          holds = seats_stay (λ j d. KnowsHold S r.log locks' words' j d.flight) s.views id w
              record { lock = l; first = f; count = n; bits = b; place = place; mine = lock_here r.locks l c l refl; reads = λ _ i z lt bad. absurd (cc (bad)); writes = λ bad. absurd (cc (bad)) }
              (λ j d _ there. hold_other S r.log r.locks words' l c j (none_holds j) d.flight (hold_frame S r.log r.log r.locks s.words words' same j d.flight (old.holds j d there)));
        };
        glances = record {
          glances = seats_stay (λ j d. KnowsGlance S r.log locks' words' d.flight) s.views id w tt
              (λ j d _ there. glance_step S r.log r.locks locks' words'
              (λ i. dite (ℕ_discrete i l)
              (λ e. let h = lock_here r.locks l c i e in let up : (r.locks i).stamp ≡ (locks' i).stamp = ap (λ (z : ℕ). (r.locks z).stamp) e ∙ (sym free.1 ∙ sym (ap (λ (z : Lock). z.stamp) h)) in
              (omega arith, λ _ _ _. ap (λ (z : ℕ). (r.locks z).dirty) e ∙ clean))
              (λ ne. let h = lock_else r.locks l c i ne in let up : (r.locks i).stamp ≡ (locks' i).stamp = sym (ap (λ (z : Lock). z.stamp) h) in
              (omega arith, λ _ _ is. ap (λ (z : Lock). z.dirty) (sym h) ∙ is)))
              d.flight (glance_frame S r.log r.log r.locks s.words words' same d.flight (let g = r.glances in g.glances j d there)));
        };
      },
      (
        refl,
        ap (λ (c : Bool). moved v it (if c then Idle else fl)) (sym (ne_eqb q 1 not_held)),
        (λ _. even),
        λ _ pass. subst (λ (z : ℕ). IsStampIn v.shape (lock_in (place_of v.shape o)) z v.number v.given v.seen q) (sym first_is)
            (stamp_there k s r id v at pass o l f n b q place within.0 free.1),
      ),
    ))

never : false ≡ true → ⊥
never e = cc

-- a part is no greater than the value
part_of_small : (bits i x v top : ℕ) → x ≡ part_of bits i v → v < top → x < top
part_of_small bits i x v top is small =
    let low : v / 2 ^ (bits * i) % 2 ^ bits ≤ v / 2 ^ (bits * i) = mod-le (v / 2 ^ (bits * i)) (2 ^ bits) in
    let part : v / 2 ^ (bits * i) ≤ v = div-le_self v (2 ^ (bits * i)) in
    omega arith

-- a part is read under the lock
pub held_keeps : (k : Opening) → IsShape k.shape → (a : Asked) (o l f n b : ℕ) → place_of k.shape o ≡ Some (In l f n b) → a.part < n → (st : ℕ) (read now : List (ℕ × ℕ)) (slots id : ℕ) (m : Me (Unit {0}) View) → m.0.role ≡ role.Pass
    → m.0.flight ≡ Hold o st read false now → Allows (ArenaHolds k) slots id m (data_word (f + a.part)) (λ x. x) (held_tells a (data_word (f + a.part)) m)
held_keeps k ok a o l f n b place inside st read now slots id m pass is s r _ at _ =
    let S : Shape = k.shape in
    let v : View = m.0 in
    let i : ℕ = a.part in
    let x : ℕ = slice_index s.words (data_word (f + i)) in
    let it : Item = item (data_word (f + i)) kind.Held x in
    let fl : Flight = Hold o st ((i, x) ∷ read) false now in
    let old = r.parts in
    let h : HoldFits S r.log r.locks s.words id o st read false now = subst (KnowsHold S r.log r.locks s.words id) is (old.holds id v at) in
    let e = one_place S o l f n b h.lock h.first h.count h.bits place h.place in
    let shaped : v.shape ≡ S = shape_is S r.log r.count r.owner s.views r.history id v at pass in
    let legal : IsLegalIn S r.log = (let q = r.history in let p = q.passes in p.legal) in
    let clean : (r.locks l).dirty ≡ false = ap (λ (z : ℕ). (r.locks z).dirty) e.lock ∙ ap (λ (z : Lock). z.dirty) h.mine in
    let spelled : x ≡ part_of b i (value_after S r.log o) = old.spelled o l f n b place (λ dirty. absurd (never (sym clean ∙ dirty))) i inside in
    let bits = (parts_within S ok o l f n b place).2 in (
      moved v it fl,
      keeps,
      tt,
      load_step k s r id v at it fl
          record {
            lock = h.lock;
            first = h.first;
            count = h.count;
            bits = h.bits;
            place = h.place;
            mine = h.mine;
            reads = λ clean. fits_more s.words h.first h.count read i x (h.reads clean) (ap (λ (z : ℕ). part_in s.words z i) (sym e.first));
            writes = λ bad. absurd (cc (bad));
          } tt (λ j u. subst (HoldsUnder S j) is u) (data_word (f + i)),
      (
        refl,
        ap (λ (z : Flight). moved v it (read_more z i x)) (sym is),
        subst (λ (z : ℕ). x < 2 ^ z) (bits ∙ ap (λ (T : Shape). T.word_bits) (sym shaped)) (old.small o l f n b i place inside),
        subst (λ (z : Shape × Flight). x < values_of (kind_of z.0 (object_in z.1))) (λ j. (sym shaped j, sym is j)) (part_of_small b i x (value_after S r.log o) (values_of (kind_of S o)) spelled (value_fits S ok r.log legal o)),
      ),
    )

-- what a hold knows, of the object's lock and parts as they are given
pub record HeldAt (S : Shape) (log : List Entry) (locks : ℕ → Lock) (words : List ℕ) (j o st : ℕ) (read : List (ℕ × ℕ)) (wrote : Bool) (now : List (ℕ × ℕ)) (l f n b : ℕ) : Type 0 where
  pub mine : locks l ≡ record { holder = Some j; stamp = st; dirty = wrote; object = o }
  pub reads : wrote ≡ false → Fits words f n read
  pub writes : wrote ≡ true → Fits words f n now × HasAll n now × AreParts b n (got read) (value_after S log o)

held_at : (S : Shape) (log : List Entry) (locks : ℕ → Lock) (words : List ℕ) (j o st : ℕ) (read : List (ℕ × ℕ)) (wrote : Bool) (now : List (ℕ × ℕ)) (l f n b : ℕ) → place_of S o ≡ Some (In l f n b)
    → HoldFits S log locks words j o st read wrote now → HeldAt S log locks words j o st read wrote now l f n b
held_at S log locks words j o st read wrote now l f n b place h = let e = one_place S o h.lock h.first h.count h.bits l f n b h.place place in
    subst (λ (x : ℕ × ℕ × ℕ × ℕ). HeldAt S log locks words j o st read wrote now x.0 x.1 x.2 x.3) (λ i. (e.lock i, e.first i, e.count i, e.bits i)) record { mine = h.mine; reads = h.reads; writes = h.writes }

-- the value that was read, and the parts as they are
module _ (k : Opening) (ok : IsShape k.shape) (o l f n b : ℕ) (place : place_of k.shape o ≡ Some (In l f n b)) (st : ℕ) (read : List (ℕ × ℕ)) (wrote : Bool) (now : List (ℕ × ℕ)) (all : HasAll n read)
    (s : State (Unit {0}) View) (r : ArenaHolds k s) (id : ℕ) (v : View) (at : get_elem? s.views id ≡ some v) (is : v.flight ≡ Hold o st read wrote now) where
  held_is : HeldAt k.shape r.log r.locks s.words id o st read wrote now l f n b
  held_is = held_at k.shape r.log r.locks s.words id o st read wrote now l f n b place (subst (KnowsHold k.shape r.log r.locks s.words id) is (let p = r.parts in p.holds id v at))

  now_all : Fits s.words f n (parts_now read wrote now) × HasAll n (parts_now read wrote now) × AreParts b n (got read) (value_after k.shape r.log o)
  now_all = let h = held_is in let p = r.parts in let mine : r.locks l ≡ record { holder = Some id; stamp = st; dirty = wrote; object = o } = h.mine in
      base_of k.shape r.log s.words o f n b read now wrote h.writes h.reads
      (λ clean. fits_are b s.words f n (value_after k.shape r.log o) read (h.reads clean) all
      (p.spelled o l f n b place (λ dirty. let bad : false ≡ true = sym clean ∙ (sym (ap (λ (z : Lock). z.dirty) mine) ∙ dirty) in absurd cc))) all

-- a part is written under the lock
pub put_keeps : (k : Opening) → IsShape k.shape → (a : Asked) (o l f n b : ℕ) → place_of k.shape o ≡ Some (In l f n b) → a.part < n → (st : ℕ) (read : List (ℕ × ℕ)) (wrote : Bool) (now : List (ℕ × ℕ)) → HasAll n read
    → (x slots id : ℕ) (m : Me (Unit {0}) View) → x < 2 ^ k.shape.word_bits → m.0.flight ≡ Hold o st read wrote now
    → Allows (ArenaHolds k) slots id m (data_word (f + a.part)) (λ _. x) (λ _. put_tells a (data_word (f + a.part)) m x)
put_keeps k ok a o l f n b place inside st read wrote now all x slots id m fits_part is s r _ at _ =
    let S : Shape = k.shape in
    let v : View = m.0 in
    let i : ℕ = a.part in
    let word : ℕ = data_word (f + i) in
    let it : Item = item word kind.Put x in
    let base : List (ℕ × ℕ) = parts_now read wrote now in
    let fl : Flight = Hold o st read true ((i, x) ∷ base) in
    let w : View = moved v it fl in
    let old = r.parts in
    let lanes = r.lanes in
    let h = held_is k ok o l f n b place st read wrote now all s r id v at is in
    let known = now_all k ok o l f n b place st read wrote now all s r id v at is in
    let mine : r.locks l ≡ record { holder = Some id; stamp = st; dirty = wrote; object = o } = h.mine in
    let held : (r.locks l).holder ≡ Some id = ap (λ (z : Lock). z.holder) mine in
    let c : Lock = record { holder = Some id; stamp = st; dirty = true; object = o } in
    let locks' : ℕ → Lock = set_lock r.locks l c in
    let words' : List ℕ = set s.words word x in
    let within = parts_within S ok o l f n b place in
    let top : f + n ≤ S.words = within.1 in
    let sized : length s.words ≡ 1 + S.words + S.locks = lanes.sized in
    let same : SameBut S o r.log r.log s.words words' = λ p q g d e there far. (
      (λ j lt. get_or-set_other s.words word (data_word (g + j)) x 0
          (λ z. ⊎_elim (λ (u : g + d ≤ f). omega arith) (λ (u : f + n ≤ g). omega arith) (parts_apart S ok p o q g d e l f n b there place far))),
      refl,
    ) in
    let stamps : (j : ℕ) → (locks' j).stamp ≡ (r.locks j).stamp = each_lock (λ j z. z.stamp ≡ (r.locks j).stamp) r.locks l c (sym (ap (λ (z : Lock). z.stamp) mine)) (λ j _. refl) in
    let shows : (j : ℕ) → shown (locks' j) ≡ shown (r.locks j) = each_lock (λ j z. shown z ≡ shown (r.locks j)) r.locks l c (sym (ap shown mine)) (λ j _. refl) in
    let still : (z : ℕ) → HoldsUnder S z v.flight → HoldsUnder S z fl = λ z u. subst (HoldsUnder S z) is u in (
      w,
      keeps,
      tt,
      record {
        log = r.log;
        count = r.count;
        owner = r.owner;
        locks = locks';
        history = history_moved S r.log r.count r.owner s.views r.history id v at it fl;
        lanes = lanes_frame S r.log r.log s.words words' r.lanes (length-set s.words word x) (get_or-set_other s.words word 0 x 0 (λ e. omega arith))
            (λ p u t d there. (get_or-set_other s.words word (data_word u) x 0 (λ e. ⊎_elim (λ (z : u < f). omega arith) (λ (z : f + n ≤ u). omega arith) (lane_apart S ok p o u t d l f n b there place)), refl));
        parts = record {
          locked = λ j lt. get_or-set_other s.words word (lock_word S j) x 0 (λ e. omega arith) ∙ (old.locked j lt ∙ sym (shows j));
          even = λ j lt. ap (λ (z : ℕ). z % 2) (stamps j) ∙ old.even j lt;
          from_first = λ j lt. subst (λ (z : ℕ). k.first_stamp ≤ z) (sym (stamps j)) (old.from_first j lt);
          upto_first = λ j lt. subst (λ (z : ℕ). z ≤ k.first_stamp + 2 * entries_under S j r.log) (sym (stamps j))
              (old.upto_first j lt);
          clean = each_lock (λ j z. z.holder ≡ None → z.dirty ≡ false) r.locks l c (λ e. absurd (cc (e))) (λ j _ e. old.clean j e);
          holders = each_lock (λ j z. (d : ℕ) → z.holder ≡ Some d → IsHolder S j (set s.views id w) d) r.locks l c
              (λ d e. holder_set S l s.views id v w at (still l) d (old.holders l d (held ∙ e)))
              (λ j _ d e. holder_set S j s.views id v w at (still j) d (old.holders j d e));
          small = λ p q g d e j there lt. let bits = (parts_within S ok p q g d e there).2 in dite (ℕ_discrete (g + j) (f + i))
              (λ here. subst (λ (z : ℕ). z < 2 ^ e) (sym (ap (λ (z : ℕ). get_or words' (data_word z) 0) here ∙ get_or-set_same s.words word x 0 (omega arith))) (subst (λ (z : ℕ). x < 2 ^ z) (sym bits) fits_part))
              (λ ne. subst (λ (z : ℕ). z < 2 ^ e) (sym (get_or-set_other s.words word (data_word (g + j)) x 0 (λ z. ne (omega arith)))) (old.small p q g d e j there lt));
          spelled = λ p q g d e there may j lt.
              let far : p ≢ o = λ z. let u = one_place S o l f n b q g d e place (subst (λ (y : ℕ). place_of S y ≡ Some (In q g d e)) z there) in let here = lock_here r.locks l c q (sym u.lock) in
              may (ap (λ (y : Lock). y.dirty) here) (ap (λ (y : Lock). y.object) here ∙ sym z) in
              let t = same p q g d e there far in t.0 j lt ∙ old.spelled p q g d e there
              (λ dirty. dite (ℕ_discrete q l)
              (λ here obj. far (sym obj ∙ (ap (λ (z : ℕ). (r.locks z).object) here ∙ ap (λ (z : Lock). z.object) mine)))
              (λ ne. let same_lock = lock_else r.locks l c q ne in subst (λ (z : Lock). z.object ≢ p) same_lock (may (ap (λ (z : Lock). z.dirty) same_lock ∙ dirty)))) j lt;
          holds = seats_stay (λ j d. KnowsHold S r.log locks' words' j d.flight) s.views id w
              record {
                lock = l;
                first = f;
                count = n;
                bits = b;
                place = place;
                mine = lock_here r.locks l c l refl;
                reads = λ bad. absurd (cc (bad));
                writes = λ _. (put_fits s.words f n i x base (omega arith) known.0, has_more n base i x known.1, known.2);
              }
              (λ j d apart there. hold_but S r.log r.log r.locks s.words words' o l f n b place c id j held apart same d.flight (old.holds j d there));
        };
        glances = record {
          glances = seats_stay (λ j d. KnowsGlance S r.log locks' words' d.flight) s.views id w tt
              (λ j d _ there. glance_put S r.log r.locks s.words words' o l f n b place c refl (λ p q g d e at' far. let t = same p q g d e at' far in t.0) stamps d.flight (let g = r.glances in g.glances j d there));
        };
      },
      (refl, ap (λ (z : Flight). moved v it (write_more z i x)) (sym is)),
    )

-- a stamp's bound, where it is at most two more and there is one more entry on the lock's objects
upto_one : (q st old first n : ℕ) → q ≤ st + 2 → old ≡ st → old ≤ first + 2 * n → q ≤ first + 2 * (n + 1)
upto_one q st old first n near is upto = omega arith

-- the lock is given up, and the call enters the history
pub release_keeps : (k : Opening) → IsShape k.shape → (o l f n b : ℕ) → place_of k.shape o ≡ Some (In l f n b) → (call : Call) (st : ℕ) (read : List (ℕ × ℕ)) (wrote : Bool) (now : List (ℕ × ℕ)) → HasAll n read
    → CallFits (kind_of k.shape o) call → AreParts b n (got (parts_now read wrote now)) (after_of (kind_of k.shape o) call (joined b (got read) n))
    → (slots id : ℕ) (m : Me (Unit {0}) View) → m.0.role ≡ role.Pass → m.0.flight ≡ Hold o st read wrote now
    → Allows (ArenaHolds k) slots id m (lock_word k.shape l) (λ _. released wrote st)
    (λ _ w. (w.1 ≡ m.1) × GrowsFrom m.0 (entry m.0.number o call (answer_of (kind_of k.shape o) call (joined b (got read) n))) (item (lock_word k.shape l) kind.Release (released wrote st)) (joined b (got read) n) w.0
    × (joined b (got read) n < values_of (kind_of k.shape o)))
release_keeps k ok o l f n b place call st read wrote now all fits becomes slots id m pass is s r _ at _ =
    let S : Shape = k.shape in
    let v : View = m.0 in
    let q : ℕ = released wrote st in
    let word : ℕ = lock_word S l in
    let it : Item = item word kind.Release q in
    let base : List (ℕ × ℕ) = parts_now read wrote now in
    let kd : Kind = kind_of S o in
    let value : ℕ = value_after S r.log o in
    let x : Entry = entry v.number o call (answer_of kd call (joined b (got read) n)) in
    let log' : List Entry = r.log ++ x ∷ [] in
    let w : View = grown v r.log x it in
    let old = r.parts in
    let lanes = r.lanes in
    let legal : IsLegalIn S r.log = (let h = r.history in let p = h.passes in p.legal) in
    let h = held_is k ok o l f n b place st read wrote now all s r id v at is in
    let known = now_all k ok o l f n b place st read wrote now all s r id v at is in
    let mine : r.locks l ≡ record { holder = Some id; stamp = st; dirty = wrote; object = o } = h.mine in
    let held : (r.locks l).holder ≡ Some id = ap (λ (z : Lock). z.holder) mine in
    let stamp_is : (r.locks l).stamp ≡ st = ap (λ (z : Lock). z.stamp) mine in
    let c : Lock = record { holder = None; stamp = q; dirty = false; object = o } in
    let locks' : ℕ → Lock = set_lock r.locks l c in
    let words' : List ℕ = set s.words word q in
    let within = parts_within S ok o l f n b place in
    let same_words = lock_same_parts S ok r.log s.words l q in
    let same : SameBut S o r.log log' s.words words' = λ p y g d e there far. let t = same_words p y g d e there in (t.0, value_of-other (cells_of_shape S) r.log x p (λ z. far (sym z))) in
    let v_is : joined b (got read) n ≡ value = parts_join_to_value b n (got read) value known.2 (parts_hold S ok o l f n b value place (value_fits S ok r.log legal o)) in
    let replied : answer_of kd call (joined b (got read) n) ≡ answer_of kd call value = ap (answer_of kd call) v_is in
    let left : left_by kd x value ≡ after_of kd call value = ap (λ (z : Reply). effect_of z (after_of kd call value) value) replied ∙ effect_of-answer_of kd call value in
    let hist = history_adds S r.log r.count r.owner s.views r.history id v at pass x it refl (lawful S r.log x (In l f n b) place fits (inl (replied, left))) in
    let known_pass = pass_known S r.log r.count r.owner s.views r.history id v at pass in
    let shaped : v.shape ≡ S = shape_is S r.log r.count r.owner s.views r.history id v at pass in
    let value_now : after_of kd call (joined b (got read) n) ≡ value_after S log' o = ap (after_of kd call) v_is ∙ (sym left ∙ sym (value_own S r.log x (In l f n b) place)) in
    let parts_are : (i : ℕ) → i < n → part_in s.words f i ≡ part_of b i (value_after S log' o) = λ i lt. fits_parts s.words f n base known.0 known.1 i lt ∙ (becomes i lt ∙ ap (part_of b i) value_now) in
    let up = released_up wrote st in
    let up_first : k.first_stamp ≤ q = (let a : k.first_stamp ≤ (r.locks l).stamp = old.from_first l within.0 in let e : (r.locks l).stamp ≡ st = stamp_is in let u : st ≤ q = up.0 in omega arith) in
    let no_other : (z : ℕ) → z ≢ l → HoldsUnder S z v.flight → HoldsUnder S z Idle = λ z ne u. let t : (g : ℕ) × (d : ℕ) × (e : ℕ) × (place_of S o ≡ Some (In z g d e)) = subst (HoldsUnder S z) is u in
    let y = one_place S o l f n b z t.0 t.1 t.2 place t.3 in ne (sym y.lock) in (
      w,
      keeps,
      tt,
      record {
        log = log';
        count = r.count;
        owner = r.owner;
        locks = locks';
        history = hist;
        lanes = lanes_frame S r.log log' s.words words' r.lanes (length-set s.words word q) (get_or-set_other s.words word 0 q 0 (λ e. omega arith))
            (λ p u t d there. let inside : u < S.words = lane_within S ok p u t d there in (get_or-set_other s.words word (data_word u) q 0 (λ e. omega arith), parts_entry_leaves_word S r.log x l f n b u place));
        parts = record {
          locked = lock_shows S r.locks s.words l q c within.0 lanes.sized refl old.locked;
          even = each_lock (λ i z. i < S.locks → z.stamp % 2 ≡ 0) r.locks l c (λ lt. released_even wrote st (ap (λ (z : ℕ). z % 2) (sym stamp_is) ∙ old.even l lt)) (λ i _ lt. old.even i lt);
          from_first = each_lock (λ i z. i < S.locks → k.first_stamp ≤ z.stamp) r.locks l c (λ _. up_first) (λ i _ lt. old.from_first i lt);
          upto_first = each_lock (λ i z. i < S.locks → z.stamp ≤ k.first_stamp + 2 * entries_under S i log') r.locks l c
              (λ lt. subst (λ (z : ℕ). q ≤ k.first_stamp + 2 * z) (sym (under_own S l r.log x f n b place))
              (upto_one q st (r.locks l).stamp k.first_stamp (entries_under S l r.log) (released_near wrote st) stamp_is (old.upto_first l lt)))
              (λ i _ lt. upto_more (r.locks i).stamp k.first_stamp (entries_under S i r.log) (entries_under S i log')
              (old.upto_first i lt) (under_more S r.log (x ∷ []) i));
          clean = each_lock (λ i z. z.holder ≡ None → z.dirty ≡ false) r.locks l c (λ _. refl) (λ i _ e. old.clean i e);
          holders = each_lock (λ i z. (j : ℕ) → z.holder ≡ Some j → IsHolder S i (set s.views id w) j) r.locks l c
              (λ j e. absurd (cc (e)))
              (λ i ne j e. holder_set S i s.views id v w at (no_other i ne) j (old.holders i j e));
          small = λ p y g d e i there lt. let t = same_words p y g d e there in subst (λ (z : ℕ). z < 2 ^ e) (sym (t.0 i lt)) (old.small p y g d e i there lt);
          spelled = λ p y g d e there may i lt. let t = same_words p y g d e there in t.0 i lt ∙ dite (ℕ_discrete p o)
              (λ here. let u = one_place S o l f n b y g d e place (subst (λ (z : ℕ). place_of S z ≡ Some (In y g d e)) here there) in
              subst (λ (z : ℕ × ℕ). part_in s.words z.0 i ≡ part_of z.1 i (value_after S log' p)) (λ j. (u.first j, u.bits j))
              (parts_are i (subst (λ (z : ℕ). i < z) (sym u.count) lt) ∙ ap (λ (z : ℕ). part_of b i (value_after S log' z)) (sym here)))
              (λ far. old.spelled p y g d e there
              (λ dirty. dite (ℕ_discrete y l)
              (λ here obj. far (sym obj ∙ (ap (λ (z : ℕ). (r.locks z).object) here ∙ ap (λ (z : Lock). z.object) mine)))
              (λ ne. let same_lock = lock_else r.locks l c y ne in subst (λ (z : Lock). z.object ≢ p) same_lock (may (ap (λ (z : Lock). z.dirty) same_lock ∙ dirty)))) i lt
              ∙ ap (part_of e i) (sym (value_of-other (cells_of_shape S) r.log x p (λ z. far (sym z)))));
          holds = seats_stay (λ j d. KnowsHold S log' locks' words' j d.flight) s.views id w tt
              (λ j d apart there. hold_but S r.log log' r.locks s.words words' o l f n b place c id j held apart same d.flight (old.holds j d there));
        };
        glances = record {
          glances = seats_stay (λ j d. KnowsGlance S log' locks' words' d.flight) s.views id w tt
              (λ j d _ there. glance_log S r.log log' locks' words' d.flight (glance_step S r.log r.locks locks' words'
              (λ i. dite (ℕ_discrete i l)
              (λ e. let here = lock_here r.locks l c i e in let was : (r.locks i).stamp ≡ st = ap (λ (z : ℕ). (r.locks z).stamp) e ∙ stamp_is in let becomes_q : (locks' i).stamp ≡ q = ap (λ (z : Lock). z.stamp) here in
              let more : st ≤ q = up.0 in
              (omega arith, λ same_stamp below _. ap (λ (z : ℕ). (r.locks z).dirty) e ∙ (ap (λ (z : Lock). z.dirty) mine ∙ up.1 (omega arith) (omega arith))))
              (λ ne. let here = lock_else r.locks l c i ne in let was : (r.locks i).stamp ≡ (locks' i).stamp = sym (ap (λ (z : Lock). z.stamp) here) in
              (omega arith, λ _ _ is. ap (λ (z : Lock). z.dirty) (sym here) ∙ is)))
              d.flight (glance_frame S r.log r.log r.locks s.words words' same_words d.flight (let g = r.glances in g.glances j d there))));
        };
      },
      (
        refl,
        record {
          between = known_pass.prefix.0;
          now = ap (λ (z : List Entry). grown v z x it) (sym known_pass.prefix.1);
          value_is = (λ t. value_after (shaped t) (known_pass.prefix.1 t) o) ∙ sym v_is;
          sound = sound_set S log' r.count r.owner s.views id v w at hist pass;
        },
        subst (λ (z : ℕ). z < values_of kd) (sym v_is) (value_fits S ok r.log legal o),
      ),
    )
