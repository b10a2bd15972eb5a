-- The parts of the rule that a step does not touch.
use Rattle.std.proofs.Common.{◌≡◌, ◌≢◌, ℕ, ◌≤◌, ◌<◌, ◌+◌, ◌*◌, ◌^◌, arith, List, [], ◌∷◌, ◌++◌, length, set, refl, ap, sym, ◌∙◌, subst, Some}
use Rattle.std.specs.Prelude.{slice_index}
use mathlib.Core.Option.{some, some-injective}
use mathlib.Core.Logic.{dite}
use native.Mathlib.Decide.{ℕ_discrete}
use lib.ListN.{get_elem?}
use Rattle.place_core.specs.declared.entry.Entry.{Entry}
use Rattle.place_core.specs.declared.shape.Shape.{Shape}
use Rattle.place_core.specs.declared.places.Place.TheVariants.{Lane, Parts as In}
use Rattle.place_core.specs.PartValues.{part_of}
use Rattle.place_core.specs.Shapes.{place_of, word_of, data_word, lock_word}
use Rattle.place_core.proofs.Seats.{set_own, set_other, longer_there, seats_stay, seats_split, seats_join}
use Rattle.seat_views.specs.declared.view.Flight.{Flight}
use Rattle.seat_views.specs.declared.view.Flight.TheVariants.{Idle, Hold, Glance}
use Rattle.seat_views.specs.declared.view.View.{View}
use Rattle.seat_views.specs.Places.{value_after}
use Rattle.seat_views.specs.Stamps.{entries_under}
use Rattle.seat_views.specs.Rule.{Lanes, Lock, part_in, Fits, KnowsHold, KnowsGlance, HoldsUnder, IsHolder, Parts, Glances}

pub lanes_frame : (S : Shape) (log log' : List Entry) (words words' : List ℕ) → Lanes S log words → length words' ≡ length words → slice_index words' 0 ≡ slice_index words 0
    → ((o w s d : ℕ) → place_of S o ≡ Some (Lane w s d) → (slice_index words' (data_word w) ≡ slice_index words (data_word w)) × (word_of S log' w ≡ word_of S log w)) → Lanes S log' words'
lanes_frame S log log' words words' l long quiet same = record {
  sized = long ∙ l.sized;
  quiet = quiet ∙ l.quiet;
  spelled = λ o w s d at. let e = same o w s d at in e.0 ∙ (l.spelled o w s d at ∙ sym e.1);
}

-- the words of parts and the values of the objects that have parts are as they were
abbrev pub SameInParts : Shape → List Entry → List Entry → List ℕ → List ℕ → Type 0
SameInParts S log log' words words' = (o l f n b : ℕ) → place_of S o ≡ Some (In l f n b) → ((i : ℕ) → i < n → part_in words' f i ≡ part_in words f i) × (value_after S log' o ≡ value_after S log o)

pub all_same : (S : Shape) (log : List Entry) (words : List ℕ) → SameInParts S log log words words
all_same S log words o l f n b at = ((λ i lt. refl), refl)

pub fits_frame : (words words' : List ℕ) (f n : ℕ) (parts : List (ℕ × ℕ)) → ((i : ℕ) → i < n → part_in words' f i ≡ part_in words f i) → Fits words f n parts → Fits words' f n parts
fits_frame words words' f n parts same h i m lt at = same i lt ∙ h i m lt at

module _ (S : Shape) (log log' : List Entry) (locks : ℕ → Lock) (words words' : List ℕ) (same : SameInParts S log log' words words') where
  pub hold_frame : (j : ℕ) (f : Flight) → KnowsHold S log locks words j f → KnowsHold S log' locks words' j f
  hold_frame j Idle h = tt
  hold_frame j (Glance o stamp read) h = tt
  hold_frame j (Hold o stamp read wrote now) h = let e = same o h.lock h.first h.count h.bits h.place in record {
    lock = h.lock;
    first = h.first;
    count = h.count;
    bits = h.bits;
    place = h.place;
    mine = h.mine;
    reads = λ t. fits_frame words words' h.first h.count read e.0 (h.reads t);
    writes = λ t. let w = h.writes t in (fits_frame words words' h.first h.count now e.0 w.0, w.1, λ i lt. w.2 i lt ∙ ap (part_of h.bits i) (sym e.1));
  }

  pub glance_frame : (f : Flight) → KnowsGlance S log locks words f → KnowsGlance S log' locks words' f
  glance_frame Idle h = tt
  glance_frame (Hold o stamp read wrote now) h = tt
  glance_frame (Glance o stamp read) h = let e = same o h.lock h.first h.count h.bits h.place in record {
    lock = h.lock;
    first = h.first;
    count = h.count;
    bits = h.bits;
    place = h.place;
    even = h.even;
    below = h.below;
    upto = h.upto;
    reads = λ s d. fits_frame words words' h.first h.count read e.0 (h.reads s d);
  }

-- a stamp's bound, where the entries on the lock's objects are no fewer
pub upto_more : (stamp first n m : ℕ) → stamp ≤ first + 2 * n → n ≤ m → stamp ≤ first + 2 * m
upto_more stamp first n m upto more = omega arith

-- what is known of the calls in flight of all views
pub record Flights (S : Shape) (log : List Entry) (locks : ℕ → Lock) (words : List ℕ) (views : List View) : Type 0 where
  pub holds : (j : ℕ) (v : View) → get_elem? views j ≡ some v → KnowsHold S log locks words j v.flight
  pub glances : (j : ℕ) (v : View) → get_elem? views j ≡ some v → KnowsGlance S log locks words v.flight
  pub holders : (l j : ℕ) → (locks l).holder ≡ Some j → IsHolder S l views j

module _ (S : Shape) (first : ℕ) (log : List Entry) (locks : ℕ → Lock) (words : List ℕ) (views : List View) (p : Parts S first log locks words views) (g : Glances S log locks words views) where
  pub flights_of : Flights S log locks words views
  flights_of = record { holds = p.holds; glances = g.glances; holders = p.holders }

  -- where no lock and no part changed
  module _ (log' : List Entry) (words' : List ℕ) (same : SameInParts S log log' words words') (views' : List View) (f : Flights S log locks words views') where
    pub parts_frame : ((l : ℕ) → l < S.locks → slice_index words' (lock_word S l) ≡ slice_index words (lock_word S l))
        → ((l : ℕ) → entries_under S l log ≤ entries_under S l log') → Parts S first log' locks words' views'
    parts_frame lock_same more = record {
      locked = λ l lt. lock_same l lt ∙ p.locked l lt;
      even = p.even;
      from_first = p.from_first;
      upto_first = λ l lt. upto_more (locks l).stamp first (entries_under S l log) (entries_under S l log')
          (p.upto_first l lt) (more l);
      clean = p.clean;
      holders = f.holders;
      small = λ o l h n b i at lt. let e = same o l h n b at in subst (λ (z : ℕ). z < 2 ^ b) (sym (e.0 i lt)) (p.small o l h n b i at lt);
      spelled = λ o l h n b at free i lt. let e = same o l h n b at in e.0 i lt ∙ (p.spelled o l h n b at free i lt ∙ ap (part_of b i) (sym e.1));
      holds = λ j v at. hold_frame S log log' locks words words' same j v.flight (f.holds j v at);
    }

    pub glances_frame : Glances S log' locks words' views'
    glances_frame = record { glances = λ j v at. glance_frame S log log' locks words words' same v.flight (f.glances j v at) }

-- a view at a seat holds the lock, where the views changed
pub holder_set : (S : Shape) (l : ℕ) (views : List View) (id : ℕ) (v w : View) → get_elem? views id ≡ some v → (HoldsUnder S l v.flight → HoldsUnder S l w.flight) → (j : ℕ) → IsHolder S l views j → IsHolder S l (set views id w) j
holder_set S l views id v w at keeps j h = dite (ℕ_discrete j id)
    (λ e. let same : some h.view ≡ some v = sym h.there ∙ (ap (get_elem? views) e ∙ at) in record {
      view = w;
      there = subst (λ (z : ℕ). get_elem? (set views id w) z ≡ some w) (sym e) (set_own views id w v at);
      under = keeps (subst (λ (x : View). HoldsUnder S l x.flight) (some-injective h.view v same) h.under);
    })
    (λ ne. record { view = h.view; there = set_other views id j w ne ∙ h.there; under = h.under })

module _ (S : Shape) (log : List Entry) (locks : ℕ → Lock) (words : List ℕ) (views : List View) (f : Flights S log locks words views) (id : ℕ) (v : View) (at : get_elem? views id ≡ some v) where
  -- one view changed
  pub flights_set : (w : View) → KnowsHold S log locks words id w.flight → KnowsGlance S log locks words w.flight → ((l : ℕ) → HoldsUnder S l v.flight → HoldsUnder S l w.flight) → Flights S log locks words (set views id w)
  flights_set w hold glance under = record {
    holds = seats_stay (λ j d. KnowsHold S log locks words j d.flight) views id w hold (λ j d _ there. f.holds j d there);
    glances = seats_stay (λ j d. KnowsGlance S log locks words d.flight) views id w glance (λ j d _ there. f.glances j d there);
    holders = λ l j e. holder_set S l views id v w at (under l) j (f.holders l j e);
  }

  module _ (w : View) (same : w.flight ≡ v.flight) where
    hold_same : KnowsHold S log locks words id w.flight
    hold_same = subst (KnowsHold S log locks words id) (sym same) (f.holds id v at)

    glance_same : KnowsGlance S log locks words w.flight
    glance_same = subst (KnowsGlance S log locks words) (sym same) (f.glances id v at)

    under_same : (l : ℕ) → HoldsUnder S l v.flight → HoldsUnder S l w.flight
    under_same l h = subst (HoldsUnder S l) (sym same) h

    -- one view changed, with the same call in flight
    pub flights_same : Flights S log locks words (set views id w)
    flights_same = flights_set w hold_same glance_same under_same

    -- and one came with nothing in flight
    pub flights_split : (n : View) → n.flight ≡ Idle → Flights S log locks words (set views id w ++ n ∷ [])
    flights_split n idle = record {
      holds = seats_split (λ j d. KnowsHold S log locks words j d.flight) views id w n hold_same (subst (KnowsHold S log locks words (length (set views id w))) (sym idle) tt) (λ j d _ there. f.holds j d there);
      glances = seats_split (λ j d. KnowsGlance S log locks words d.flight) views id w n glance_same (subst (KnowsGlance S log locks words) (sym idle) tt) (λ j d _ there. f.glances j d there);
      holders = λ l j e. let h = holder_set S l views id v w at (under_same l) j (f.holders l j e) in record { view = h.view; there = longer_there (set views id w) n j h.view h.there; under = h.under };
    }

    -- and another changed, which had nothing in flight, and has nothing
    pub flights_join : (other : ℕ) (e s : View) → other ≢ id → get_elem? views other ≡ some e → e.flight ≡ Idle → s.flight ≡ Idle → Flights S log locks words (set (set views id w) other s)
    flights_join other e s apart there empty idle = record {
      holds = seats_join (λ j d. KnowsHold S log locks words j d.flight) views id other w s hold_same (subst (KnowsHold S log locks words other) (sym idle) tt) (λ j d _ _ at'. f.holds j d at');
      glances = seats_join (λ j d. KnowsGlance S log locks words d.flight) views id other w s glance_same (subst (KnowsGlance S log locks words) (sym idle) tt) (λ j d _ _ at'. f.glances j d at');
      holders = λ l j h. holder_set S l (set views id w) other e s (set_other views id other w apart ∙ there) (λ u. absurd (subst (HoldsUnder S l) empty u)) j (holder_set S l views id v w at (under_same l) j (f.holders l j h));
    }
