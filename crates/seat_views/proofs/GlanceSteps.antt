-- The steps of a glance keep the rule: the stamp, the parts, and the stamp again.
use Rattle.std.proofs.Common.{inl, ◌≡◌, ◌≢◌, ℕ, ◌<◌, ◌+◌, ◌%◌, ◌^◌, ◌==◌, Bool, true, false, if◌then◌else◌, List, [], ◌∷◌, ◌++◌, set, refl, ap, sym, ◌∙◌, subst, arith, eq-eqb, ne_eqb, Some}
use Rattle.std.specs.Prelude.{slice_index}
use Rattle.std.proofs.lemmas.List.{set-get_or}
use mathlib.Core.Logic.{dite}
use native.Mathlib.Decide.{ℕ_discrete}
use Rattle.atomic_table.specs.Table.{Me, keeps, Allows}
use Rattle.op_table.specs.declared.call.Call.TheVariants.{Load}
use Rattle.op_table.specs.declared.call.Reply.TheVariants.{Value}
use Rattle.place_core.specs.declared.entry.Entry.{Entry}
use Rattle.place_core.specs.declared.shape.Shape.{Shape}
use Rattle.place_core.specs.declared.places.Place.TheVariants.{Parts as In}
use Rattle.place_core.specs.PartValues.{joined, AreParts}
use Rattle.place_core.specs.Shapes.{place_of, data_word, lock_word, IsShape}
use Rattle.place_core.proofs.LegalValues.{value_fits}
use Rattle.place_core.proofs.PartSums.{parts_join_to_value}
use Rattle.place_core.proofs.WordEntries.{load_leaves_word}
use Rattle.seat_views.specs.declared.view.Opening.{Opening}
use Rattle.seat_views.specs.declared.view.Role.TheVariants as role
use Rattle.seat_views.specs.declared.view.StepKind.TheVariants as kind
use Rattle.seat_views.specs.declared.view.Item.{Item}
use Rattle.seat_views.specs.declared.view.Flight.{Flight}
use Rattle.seat_views.specs.declared.view.Flight.TheVariants.{Idle, Glance}
use Rattle.seat_views.specs.declared.view.View.{View}
use Rattle.seat_views.specs.Places.{value_after, IsLegalIn, lock_in}
use Rattle.seat_views.specs.Stamps.{IsStampIn}
use Rattle.seat_views.specs.PartLists.{got, HasAll}
use Rattle.seat_views.specs.Rule.{shown, part_in, Fits, GlanceFits, KnowsGlance, HoldsUnder, ArenaHolds}
use Rattle.seat_views.specs.Steps.{Asked, entry, item, grown, moved, Grows}
use Rattle.seat_views.specs.Limits.{last_stamp}
use Rattle.seat_views.specs.LockSteps.{read_more, StampTold, stamp_tells, read_tells}
use Rattle.seat_views.proofs.ShapePlaces.{parts_within, parts_hold, one_place, lawful}
use Rattle.seat_views.proofs.Frames.{SameInParts, flights_of, flights_set, parts_frame, glances_frame, lanes_frame}
use Rattle.seat_views.proofs.Histories.{pass_known, shape_is, history_adds, sound_set}
use Rattle.seat_views.proofs.StampFacts.{under_more, stamp_there}
use Rattle.seat_views.proofs.LockFacts.{free_of, fits_more, fits_are}
use Rattle.seat_views.proofs.HoldSteps.{load_step}

-- a stamp is read
pub stamp_keeps : (k : Opening) → IsShape k.shape → (a : Asked) (l f n b : ℕ) → place_of k.shape a.object ≡ Some (In l f n b) → (slots id : ℕ) (m : Me (Unit {0}) View) → m.0.flight ≡ Idle → a.stamp ≡ k.first_stamp
    → Allows (ArenaHolds k) slots id m (lock_word k.shape l) (λ x. x) (stamp_tells a (lock_word k.shape l) m)
stamp_keeps k ok a l f n b place slots id m rest first_is s r _ at small =
    let S : Shape = k.shape in
    let o : ℕ = a.object in
    let v : View = m.0 in
    let word : ℕ = lock_word S l in
    let q : ℕ = slice_index s.words word in
    let it : Item = item word kind.Stamp q in
    let within = parts_within S ok o l f n b place in
    let old = r.parts in
    let locked : q ≡ shown (r.locks l) = old.locked l within.0 in
    let none : (f : Flight) → (z : ℕ) → HoldsUnder S z v.flight → HoldsUnder S z f = λ f z u. absurd (subst (HoldsUnder S z) rest u) in
    let told : q ≢ 1 → StampTold a v q = λ not_held _ pass.
    subst (λ (z : ℕ). IsStampIn v.shape (lock_in (place_of v.shape o)) z v.number v.given v.seen q) (sym first_is)
    (stamp_there k s r id v at pass o l f n b q place within.0 (free_of (r.locks l) q locked not_held).1) in
    dite (ℕ_discrete q 1)
    (λ held. (
      moved v it Idle,
      keeps,
      tt,
      load_step k s r id v at it Idle tt tt (none Idle) word,
      (refl, ap (λ (c : Bool). moved v it (if c then Idle else (if q == last_stamp then Idle else Glance o q []))) (sym (eq-eqb q 1 held)), λ ne. absurd (ne held)),
    ))
    (λ not_held. dite (ℕ_discrete q last_stamp)
    (λ ends. (
      moved v it Idle,
      keeps,
      tt,
      load_step k s r id v at it Idle tt tt (none Idle) word,
      (refl, ap (λ (c : Bool × Bool). moved v it (if c.0 then Idle else (if c.1 then Idle else Glance o q []))) (λ i. (sym (ne_eqb q 1 not_held) i, sym (eq-eqb q last_stamp ends) i)), told not_held),
    ))
    (λ not_last.
    let free = free_of (r.locks l) q locked not_held in
    let even : q % 2 ≡ 0 = ap (λ (z : ℕ). z % 2) free.1 ∙ old.even l within.0 in
    let fits : q < 18446744073709551616 = small in
    let is : q ≡ (r.locks l).stamp = free.1 in (
      moved v it (Glance o q []),
      keeps,
      tt,
      load_step k s r id v at it (Glance o q []) tt
          record { lock = l; first = f; count = n; bits = b; place = place; even = even; below = omega arith; upto = omega arith; reads = λ _ _ i z lt bad. absurd (cc (bad)) }
          (none (Glance o q [])) word,
      (refl, ap (λ (c : Bool × Bool). moved v it (if c.0 then Idle else (if c.1 then Idle else Glance o q []))) (λ i. (sym (ne_eqb q 1 not_held) i, sym (ne_eqb q last_stamp not_last) i)), told not_held),
    )))

-- a part is read in a glance
pub part_keeps : (k : Opening) → IsShape k.shape → (a : Asked) (o l f n b : ℕ) → place_of k.shape o ≡ Some (In l f n b) → a.part < n → (st : ℕ) (read : List (ℕ × ℕ)) (slots id : ℕ) (m : Me (Unit {0}) View) → m.0.role ≡ role.Pass
    → m.0.flight ≡ Glance o st read → Allows (ArenaHolds k) slots id m (data_word (f + a.part)) (λ x. x) (read_tells kind.Part a (data_word (f + a.part)) m)
part_keeps k ok a o l f n b place inside st read slots id m pass is s r _ at _ =
    let S : Shape = k.shape in
    let v : View = m.0 in
    let i : ℕ = a.part in
    let x : ℕ = slice_index s.words (data_word (f + i)) in
    let it : Item = item (data_word (f + i)) kind.Part x in
    let fl : Flight = Glance o st ((i, x) ∷ read) in
    let old = r.parts in
    let h : GlanceFits S r.log r.locks s.words o st read = subst (KnowsGlance S r.log r.locks s.words) is (let g = r.glances in g.glances id v at) in
    let e = one_place S o l f n b h.lock h.first h.count h.bits place h.place in
    let shaped : v.shape ≡ S = shape_is S r.log r.count r.owner s.views r.history id v at pass in
    let bits = (parts_within S ok o l f n b place).2 in (
      moved v it fl,
      keeps,
      tt,
      load_step k s r id v at it fl tt
          record {
            lock = h.lock;
            first = h.first;
            count = h.count;
            bits = h.bits;
            place = h.place;
            even = h.even;
            below = h.below;
            upto = h.upto;
            reads = λ same clean. fits_more s.words h.first h.count read i x (h.reads same clean) (ap (λ (z : ℕ). part_in s.words z i) (sym e.first));
          } (λ j u. absurd (subst (HoldsUnder S j) is u)) (data_word (f + i)),
      (refl, ap (λ (z : Flight). moved v it (read_more z i x)) (sym is), subst (λ (z : ℕ). x < 2 ^ z) (bits ∙ ap (λ (T : Shape). T.word_bits) (sym shaped)) (old.small o l f n b i place inside)),
    )

-- the second look at the stamp ends a glance, which is a load where the stamp stands
pub match_keeps : (k : Opening) → IsShape k.shape → (o l f n b : ℕ) → place_of k.shape o ≡ Some (In l f n b) → (st : ℕ) (read : List (ℕ × ℕ)) → HasAll n read
    → (slots id : ℕ) (m : Me (Unit {0}) View) → m.0.role ≡ role.Pass → m.0.flight ≡ Glance o st read
    → Allows (ArenaHolds k) slots id m (lock_word k.shape l) (λ x. x)
    (λ q w. (w.1 ≡ m.1) × (q ≡ st → Grows m.0 (entry m.0.number o Load (Value (joined b (got read) n))) (item (lock_word k.shape l) kind.Match q) w.0)
    × (q ≢ st → w.0 ≡ moved m.0 (item (lock_word k.shape l) kind.Match q) Idle))
match_keeps k ok o l f n b place st read all slots id m pass is s r _ at _ =
    let S : Shape = k.shape in
    let v : View = m.0 in
    let word : ℕ = lock_word S l in
    let q : ℕ = slice_index s.words word in
    let it : Item = item word kind.Match q in
    let within = parts_within S ok o l f n b place in
    let old = r.parts in
    let locked : q ≡ shown (r.locks l) = old.locked l within.0 in
    let g : GlanceFits S r.log r.locks s.words o st read = subst (KnowsGlance S r.log r.locks s.words) is (let g = r.glances in g.glances id v at) in
    let e = one_place S o g.lock g.first g.count g.bits l f n b g.place place in
    let none : (z : ℕ) → HoldsUnder S z v.flight → HoldsUnder S z Idle = λ z u. absurd (subst (HoldsUnder S z) is u) in
    dite (ℕ_discrete q st)
    (λ stands.
    let even : st % 2 ≡ 0 = g.even in
    let free = free_of (r.locks l) q locked (λ e. omega arith) in
    let clean : (r.locks l).dirty ≡ false = old.clean l free.0 in
    let fits : Fits s.words f n read = subst (λ (z : ℕ × ℕ). Fits s.words z.0 z.1 read) (λ i. (e.first i, e.count i))
    (g.reads (sym stands ∙ (free.1 ∙ ap (λ (z : ℕ). (r.locks z).stamp) (sym e.lock))) (ap (λ (z : ℕ). (r.locks z).dirty) e.lock ∙ clean)) in
    let legal : IsLegalIn S r.log = (let h = r.history in let p = h.passes in p.legal) in
    let value : ℕ = value_after S r.log o in
    let are : AreParts b n (got read) value = fits_are b s.words f n value read fits all (old.spelled o l f n b place (λ dirty. let bad : false ≡ true = sym clean ∙ dirty in absurd cc)) in
    let v_is : joined b (got read) n ≡ value = parts_join_to_value b n (got read) value are (parts_hold S ok o l f n b value place (value_fits S ok r.log legal o)) in
    let x : Entry = entry v.number o Load (Value (joined b (got read) n)) in
    let log' : List Entry = r.log ++ x ∷ [] in
    let w : View = grown v r.log x it in
    let law = load_leaves_word S r.log x refl in
    let same : SameInParts S r.log log' s.words s.words = λ p y h d c there. ((λ i lt. refl), law.0 p) in
    let flights = flights_set S r.log r.locks s.words s.views (flights_of S k.first_stamp r.log r.locks s.words s.views r.parts r.glances) id v at w tt tt none in
    let known = pass_known S r.log r.count r.owner s.views r.history id v at pass in
    let hist = history_adds S r.log r.count r.owner s.views r.history id v at pass x it refl (lawful S r.log x (In l f n b) place tt (inl (ap (λ (z : ℕ). Value z) v_is, refl))) in (
      w,
      keeps,
      tt,
      subst (λ (ws : List ℕ). ArenaHolds k record { words = ws; homes = s.homes; views = set s.views id w }) (sym (set-get_or s.words word 0)) record {
        log = log';
        count = r.count;
        owner = r.owner;
        locks = r.locks;
        history = hist;
        lanes = lanes_frame S r.log log' s.words s.words r.lanes refl refl (λ p u t d there. (refl, law.1 u));
        parts = parts_frame S k.first_stamp r.log r.locks s.words s.views r.parts r.glances log' s.words same (set s.views id w) flights (λ l lt. refl) (under_more S r.log (x ∷ []));
        glances = glances_frame S k.first_stamp r.log r.locks s.words s.views r.parts r.glances log' s.words same (set s.views id w) flights;
      },
      (
        refl,
        (λ _. record {
          between = known.prefix.0;
          now = ap (λ (z : List Entry). grown v z x it) (sym known.prefix.1);
          sound = sound_set S log' r.count r.owner s.views id v w at hist pass;
        }),
        λ ne. absurd (ne stands),
      ),
    ))
    (λ differs. (
      moved v it Idle,
      keeps,
      tt,
      load_step k s r id v at it Idle tt tt none word,
      (refl, (λ e. absurd (differs e)), λ _. refl),
    ))
