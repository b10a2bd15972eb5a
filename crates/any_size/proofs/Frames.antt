-- Locks, words and holds where a step changes one of them.
use Rattle.std.proofs.Common.{◌≡◌, ◌≢◌, inl, inr, ℕ, ◌≤◌, ◌<◌, ◌+◌, ◌==◌, Bool, true, false, if◌then◌else◌, List, [], ◌∷◌, ◌++◌, length, take, set, get_or, refl, ap, sym, ◌∙◌, subst, arith, Option, Some, None, length-set, get_or-set_other, get_or-set_same, eq-eqb, ne_eqb}
use Rattle.std.specs.Prelude.{slice_index}
use mathlib.Core.Option.{some, some-injective}
use mathlib.Core.Logic.{dite}
use native.Mathlib.Decide.{ℕ_discrete}
use lib.ListN.{get_elem?}
use Rattle.place_core.proofs.Seats.{set_own, set_other, longer_there, seats_stay, seats_split, seats_join}
use Rattle.any_size.specs.declared.call.BlockEntry.{BlockEntry}
use Rattle.any_size.specs.declared.view.Hold.{Hold}
use Rattle.any_size.specs.declared.view.Hold.TheVariants.{Idle, Held}
use Rattle.any_size.specs.declared.view.BlockView.{BlockView}
use Rattle.any_size.specs.Bytes.{Spells}
use Rattle.any_size.specs.Histories.{size_of, value_of}
use Rattle.any_size.specs.Layout.{count_of, lock_of, lock_word, first_word, table_size}
use Rattle.any_size.specs.Rule.{Lock, shown, written_of, IsWritten, object_words, HoldFits, KnowsHold, HoldsUnder, IsHolder, Words}
use Rattle.any_size.proofs.WordLists.{words_else}
use Rattle.any_size.proofs.Layouts.{lies_within}

-- ---- one lock

abbrev pub set_lock : (ℕ → Lock) → ℕ → Lock → ℕ → Lock
set_lock state l k n = if n == l then k else state n

pub lock_here : (state : ℕ → Lock) (l : ℕ) (k : Lock) (n : ℕ) → n ≡ l → set_lock state l k n ≡ k
lock_here state l k n e = ap (λ (b : Bool). if b then k else state n) (eq-eqb n l e)

pub lock_else : (state : ℕ → Lock) (l : ℕ) (k : Lock) (n : ℕ) → n ≢ l → set_lock state l k n ≡ state n
lock_else state l k n e = ap (λ (b : Bool). if b then k else state n) (ne_eqb n l e)

-- what holds of one lock and of all others
pub each_lock : (P : ℕ → Lock → Type 0) (state : ℕ → Lock) (l : ℕ) (k : Lock) → P l k → ((i : ℕ) → i ≢ l → P i (state i)) → (i : ℕ) → P i (set_lock state l k i)
each_lock P state l k here others i = dite (ℕ_discrete i l)
    (λ e. subst (λ (z : ℕ × Lock). P z.0 z.1) (λ t. (sym e t, sym (lock_here state l k i e) t)) here)
    (λ ne. subst (P i) (sym (lock_else state l k i ne)) (others i ne))

-- the words of locks, where one lock and its word changed
pub lock_shows : (K : ℕ) (state : ℕ → Lock) (words : List ℕ) (l n : ℕ) (k : Lock) → l < K → 1 + K ≤ length words → n ≡ shown k.holder → ((i : ℕ) → i < K → slice_index words (lock_word i) ≡ shown (state i).holder)
    → (i : ℕ) → i < K → slice_index (set words (lock_word l) n) (lock_word i) ≡ shown (set_lock state l k i).holder
lock_shows K state words l n k lt sized shows old i inside = dite (ℕ_discrete i l)
    (λ e. ap (λ (z : ℕ). get_or (set words (lock_word l) n) (lock_word z) 0) e ∙ (get_or-set_same words (lock_word l) n 0 (omega arith) ∙ (shows ∙ ap (λ (z : Lock). shown z.holder) (sym (lock_here state l k i e)))))
    (λ ne. get_or-set_other words (lock_word l) (lock_word i) n 0 (λ e. ne (omega arith)) ∙ (old i inside ∙ ap (λ (z : Lock). shown z.holder) (sym (lock_else state l k i ne))))

-- a lock's word is none of an object's
pub lock_object : (S : List (List ℕ)) (K : ℕ) (words : List ℕ) (l n o : ℕ) → l < K → o < length S → object_words S K (set words (lock_word l) n) o ≡ object_words S K words o
lock_object S K words l n o lt inside = let w = lies_within S K o inside in words_else words (first_word S K o) (count_of S o) (lock_word l) n (inl (omega (arith, w.0)))

-- ---- holds

module _ (S : List (List ℕ)) (K : ℕ) where
  -- a hold where its lock, its words and its value stay
  pub hold_frame : (log log' : List BlockEntry) (state state' : ℕ → Lock) (words words' : List ℕ) (j o : ℕ) (read put : List ℕ) → state' (lock_of K o) ≡ state (lock_of K o) → object_words S K words' o ≡ object_words S K words o
      → value_of S log' o ≡ value_of S log o → HoldFits S K log state words j o read put → HoldFits S K log' state' words' j o read put
  hold_frame log log' state state' words words' j o read put lock same value h = record {
    inside = h.inside;
    mine = lock ∙ h.mine;
    now = ap (take (length read)) same ∙ h.now;
    whole = λ wrote. let w = h.whole wrote in (w.0, subst (λ (v : List ℕ). Spells (size_of S o) read v) (sym value) w.1);
  }

  -- the holds of seats that don't hold lock l, where all else that they know stays
  pub holds_else : (log log' : List BlockEntry) (state : ℕ → Lock) (l : ℕ) (k : Lock) (words words' : List ℕ) (j : ℕ) → (state l).holder ≢ Some j
      → ((o : ℕ) → o < length S → lock_of K o ≢ l → (object_words S K words' o ≡ object_words S K words o) × (value_of S log' o ≡ value_of S log o))
      → (f : Hold) → KnowsHold S K log state words j f → KnowsHold S K log' (set_lock state l k) words' j f
  holds_else log log' state l k words words' j free same Idle h = tt
  holds_else log log' state l k words words' j free same (Held o read put) h =
      let ne : lock_of K o ≢ l = λ e. free (ap (λ (z : ℕ). (state z).holder) (sym e) ∙ ap (λ (z : Lock). z.holder) h.mine) in
      let t = same o h.inside ne in
      hold_frame log log' state (set_lock state l k) words words' j o read put (lock_else state l k (lock_of K o) ne) t.0 t.1 h

  -- a holder stays, where its view still holds what it held
  pub holder_set : (l : ℕ) (views : List BlockView) (id : ℕ) (v w : BlockView) → get_elem? views id ≡ some v → (HoldsUnder K l v.hold → HoldsUnder K l w.hold) → (j : ℕ) → IsHolder K l views j → IsHolder K l (set views id w) j
  holder_set l views id v w at keeps j h = dite (ℕ_discrete j id)
      (λ e. let same : some h.view ≡ some v = sym h.there ∙ (ap (get_elem? views) e ∙ at) in record {
        view = w;
        there = subst (λ (z : ℕ). get_elem? (set views id w) z ≡ some w) (sym e) (set_own views id w v at);
        under = keeps (subst (λ (x : BlockView). HoldsUnder K l x.hold) (some-injective h.view v same) h.under);
      })
      (λ ne. record { view = h.view; there = set_other views id j w ne ∙ h.there; under = h.under })

  module _ (log : List BlockEntry) (state : ℕ → Lock) (words : List ℕ) (views : List BlockView) (h : Words S K log state words views) (id : ℕ) (v : BlockView) (at : get_elem? views id ≡ some v) where
    -- one view changed, and no word
    pub words_view : (w : BlockView) → KnowsHold S K log state words id w.hold → ((l : ℕ) → HoldsUnder K l v.hold → HoldsUnder K l w.hold) → Words S K log state words (set views id w)
    words_view w hold under = record {
      sized = h.sized;
      quiet = h.quiet;
      locked = h.locked;
      clean = h.clean;
      holders = λ l j e. holder_set l views id v w at (under l) j (h.holders l j e);
      spelled = h.spelled;
      holds = seats_stay (λ j d. KnowsHold S K log state words j d.hold) views id w hold (λ j d _ there. h.holds j d there);
    }

    module _ (w : BlockView) (same : w.hold ≡ v.hold) where
      hold_same : KnowsHold S K log state words id w.hold
      hold_same = subst (KnowsHold S K log state words id) (sym same) (h.holds id v at)

      under_same : (l : ℕ) → HoldsUnder K l v.hold → HoldsUnder K l w.hold
      under_same l u = subst (HoldsUnder K l) (sym same) u

      -- with the same call in flight
      pub words_same : Words S K log state words (set views id w)
      words_same = words_view w hold_same under_same

      -- and one view came, with nothing in flight
      pub words_split : (n : BlockView) → n.hold ≡ Idle → Words S K log state words (set views id w ++ n ∷ [])
      words_split n idle = record {
        sized = h.sized;
        quiet = h.quiet;
        locked = h.locked;
        clean = h.clean;
        holders = λ l j e. let t = holder_set l views id v w at (under_same l) j (h.holders l j e) in record { view = t.view; there = longer_there (set views id w) n j t.view t.there; under = t.under };
        spelled = h.spelled;
        holds = seats_split (λ j d. KnowsHold S K log state words j d.hold) views id w n hold_same (subst (KnowsHold S K log state words (length (set views id w))) (sym idle) tt) (λ j d _ there. h.holds j d there);
      }

      -- and another changed, which had nothing in flight, and has nothing
      pub words_join : (other : ℕ) (e s : BlockView) → other ≢ id → get_elem? views other ≡ some e → e.hold ≡ Idle → s.hold ≡ Idle → Words S K log state words (set (set views id w) other s)
      words_join other e s apart there empty idle = record {
        sized = h.sized;
        quiet = h.quiet;
        locked = h.locked;
        clean = h.clean;
        holders = λ l j t. holder_set l (set views id w) other e s (set_other views id other w apart ∙ there) (λ u. absurd (subst (HoldsUnder K l) empty u)) j (holder_set l views id v w at (under_same l) j (h.holders l j t));
        spelled = h.spelled;
        holds = seats_join (λ j d. KnowsHold S K log state words j d.hold) views id other w s hold_same (subst (KnowsHold S K log state words other) (sym idle) tt) (λ j d _ _ at'. h.holds j d at');
      }
