-- The part of the rule on the history, after each kind of step.
use Rattle.std.proofs.Common.{◌≡◌, ◌≢◌, ℕ, ◌+◌, ◌==◌, if◌then◌else◌, true, List, [], ◌∷◌, ◌++◌, length, set, refl, ap, sym, subst, Option, Some, None}
use mathlib.Core.List.{IsPrefix}
use mathlib.Core.Option.{some}
use lib.ListN.{get_elem?}
use Rattle.place_core.specs.declared.entry.Entry.{Entry}
use Rattle.place_core.specs.declared.shape.Shape.{Shape}
use Rattle.place_core.specs.Cells.{IsLawful}
use Rattle.place_core.specs.Shapes.{cells_of_shape}
use Rattle.place_core.specs.Passes.{PassOf, NoteOf, KnowsPass, longer, owner_given, owner_gone}
use Rattle.place_core.proofs.EntryLists.{Each-none, Each-prefix}
use Rattle.place_core.proofs.Seats.{seats_stay, seats_split, seats_join, set_own, one_view}
use Rattle.place_core.proofs.PassLaws.{root_sound}
use Rattle.place_core.proofs.PassSteps.{knows_pass, passes_same, passes_entry, passes_all, passes_given, passes_keep, passes_hear, passes_heard, passes_end, passes_note, passes_open}
use Rattle.seat_views.specs.declared.view.Opening.{Opening}
use Rattle.seat_views.specs.declared.view.Role.TheVariants as role
use Rattle.seat_views.specs.declared.view.Beside.TheVariants as beside
use Rattle.seat_views.specs.declared.view.Flight.{Flight}
use Rattle.seat_views.specs.declared.view.Item.{Item}
use Rattle.seat_views.specs.declared.view.View.{View}
use Rattle.seat_views.specs.Places.{IsLegalIn}
use Rattle.seat_views.specs.Rule.{first_view, spent_view, kept_of, known_of, party_at, party_of, is_live, caller_of, number_of_ended, entries_of_ended, History}
use Rattle.seat_views.specs.Steps.{caught_up, grown, moved, IsSoundView}
use Rattle.seat_views.specs.Moves.{giver, newcomer, joining, ended_pass, taken_back, noting, note_view, meeting, met}
use Rattle.seat_views.proofs.ShapePlaces.{legal_more}

-- a pass as the history sees it
pub party_pass : (v : View) → v.role ≡ role.Pass → party_of v ≡ PassOf (known_of v)
party_pass v is = ap (λ r. party_at r (known_of v)) is

party_note : (v : View) → v.role ≡ role.Note → party_of v ≡ NoteOf v.seen
party_note v is = ap (λ r. party_at r (known_of v)) is

module _ (S : Shape) (log : List Entry) (count : ℕ) (owner : ℕ → Option ℕ) (views : List View) (h : History S log count owner views) (id : ℕ) (v : View) (at : get_elem? views id ≡ some v) where
  -- a view that the history sees as the same
  pub history_same : (w : View) → party_of w ≡ party_of v → (is_live w.role ≡ true → w.shape ≡ S) → History S log count owner (set views id w)
  history_same w same shaped = record {
    passes = passes_same party_of (IsLegalIn S) caller_of number_of_ended entries_of_ended log count owner views h.passes id v at w same;
    shapes = seats_stay (λ j d. is_live d.role ≡ true → d.shape ≡ S) views id w shaped (λ j d _ there. h.shapes j d there);
  }

  -- one more step, and another call in flight
  pub history_moved : (i : Item) (f : Flight) → History S log count owner (set views id (moved v i f))
  history_moved i f = history_same (moved v i f) refl (h.shapes id v at)

  module _ (is : v.role ≡ role.Pass) where
    pub pass_known : KnowsPass caller_of number_of_ended entries_of_ended log count owner id (known_of v)
    pass_known = knows_pass party_of (IsLegalIn S) caller_of number_of_ended entries_of_ended log count owner views h.passes id v at (known_of v) (party_pass v is)

    pub shape_is : v.shape ≡ S
    shape_is = h.shapes id v at (ap is_live is)

    -- what the rule knows of a pass makes its view sound
    pub sound_is : IsSoundView v
    sound_is = let k = pass_known in record {
      role = is;
      legal = subst (λ (T : Shape). IsLegalIn T v.seen) (sym shape_is) (Each-prefix (IsLawful (cells_of_shape S)) v.seen log k.prefix (let p = h.passes in p.legal));
      own = k.own;
      root = root_sound caller_of number_of_ended entries_of_ended log count owner id (known_of v) (let p = h.passes in p.callers) k;
    }

    -- one more entry of the pass's own
    pub history_adds : (x : Entry) (i : Item) → x.caller ≡ v.number → IsLawful (cells_of_shape S) log x → History S (log ++ x ∷ []) count owner (set views id (grown v log x i))
    history_adds x i own law = record {
      passes = passes_entry party_of (IsLegalIn S) caller_of number_of_ended entries_of_ended log count owner views h.passes id v at (known_of v) (party_pass v is) x (grown v log x i) own
          (legal_more S log x (let p = h.passes in p.legal) law) (party_pass (grown v log x i) is);
      shapes = seats_stay (λ j d. is_live d.role ≡ true → d.shape ≡ S) views id (grown v log x i) (h.shapes id v at) (λ j d _ there. h.shapes j d there);
    }

    -- the pass sees all
    pub history_sees : (i : Item) → History S log count owner (set views id (caught_up v log i))
    history_sees i = record {
      passes = passes_all party_of (IsLegalIn S) caller_of number_of_ended entries_of_ended log count owner views h.passes id v at (known_of v) (party_pass v is) (caught_up v log i) (party_pass (caught_up v log i) is);
      shapes = seats_stay (λ j d. is_live d.role ≡ true → d.shape ≡ S) views id (caught_up v log i) (h.shapes id v at) (λ j d _ there. h.shapes j d there);
    }

    -- the root gives a number
    pub history_gives : v.number ≡ 0 → History S log (count + 1) (owner_given owner (count + 1) (length (set views id (giver v)))) (set views id (giver v) ++ newcomer v ∷ [])
    history_gives zero_is = record {
      passes = passes_given party_of (IsLegalIn S) caller_of number_of_ended entries_of_ended log count owner views h.passes id v at (known_of v) (party_pass v is) (giver v) (newcomer v) zero_is (party_pass (giver v) is) refl;
      shapes = seats_split (λ j d. is_live d.role ≡ true → d.shape ≡ S) views id (giver v) (newcomer v) (h.shapes id v at) (λ _. shape_is) (λ j d _ there. h.shapes j d there);
    }

    -- a note of what the pass has seen
    pub history_notes : History S log count owner (set views id (noting v) ++ note_view v ∷ [])
    history_notes = record {
      passes = passes_note party_of (IsLegalIn S) caller_of number_of_ended entries_of_ended log count owner views h.passes id v at (noting v) (note_view v) (known_of v) (party_pass v is) (party_pass (noting v) is) refl;
      shapes = seats_split (λ j d. is_live d.role ≡ true → d.shape ≡ S) views id (noting v) (note_view v) (h.shapes id v at) (λ _. shape_is) (λ j d _ there. h.shapes j d there);
    }

    module _ (other : ℕ) (e : View) (apart : other ≢ id) (there : get_elem? views other ≡ some e) (alone : v.beside ≡ beside.Nobody) where
      -- a pass is kept beside the root's view, and its own view is spent
      pub history_joins : e.role ≡ role.Pass → e.beside ≡ beside.Nobody → v.number ≡ 0 → History S log count (owner_gone owner e.number) (set (set views id (joining v e)) other spent_view)
      history_joins too empty zero_is = record {
        passes = passes_keep party_of (IsLegalIn S) caller_of number_of_ended entries_of_ended log count owner views h.passes id v at (known_of v) (party_pass v is) other e (joining v e) spent_view apart there (ap kept_of alone) refl
            (known_of e) (party_pass e too) (ap kept_of empty) zero_is (party_pass (joining v e) is);
        shapes = seats_join (λ j d. is_live d.role ≡ true → d.shape ≡ S) views id other (joining v e) spent_view (h.shapes id v at) (λ bad. absurd cc) (λ j d _ _ at'. h.shapes j d at');
      }

      -- a note is kept beside the pass's view, and its own view is spent
      pub history_meets : e.role ≡ role.Note → History S log count owner (set (set views id (meeting v e)) other spent_view)
      history_meets too = record {
        passes = passes_hear party_of (IsLegalIn S) caller_of number_of_ended entries_of_ended log count owner views h.passes id v at (known_of v) (party_pass v is) other e (meeting v e) spent_view apart there (ap kept_of alone) refl
            e.seen (party_note e too) (party_pass (meeting v e) is);
        shapes = seats_join (λ j d. is_live d.role ≡ true → d.shape ≡ S) views id other (meeting v e) spent_view (h.shapes id v at) (λ bad. absurd cc) (λ j d _ _ at'. h.shapes j d at');
      }

    -- the pass that was kept is taken in
    pub history_learns : (n : ℕ) (seen mine : List Entry) (trail : List Item) (aside : ℕ) → v.beside ≡ beside.Pass n seen mine trail aside
        → History S log count owner (set views id (taken_back v n seen mine trail aside)) × IsPrefix v.seen (longer v.seen seen) × IsPrefix seen (longer v.seen seen)
    history_learns n seen mine trail aside held =
        let w : View = taken_back v n seen mine trail aside in
        let t = passes_end party_of (IsLegalIn S) caller_of number_of_ended entries_of_ended log count owner views h.passes id v at (known_of v) (party_pass v is) n seen mine (ended_pass n mine trail aside) w (ap kept_of held) refl refl (party_pass w is) in
        (record { passes = t.0; shapes = seats_stay (λ j d. is_live d.role ≡ true → d.shape ≡ S) views id w (h.shapes id v at) (λ j d _ there. h.shapes j d there) }, t.1, t.2)

    -- the note that was kept is taken in
    pub history_hears : (seen : List Entry) → v.beside ≡ beside.Note seen → History S log count owner (set views id (met v seen)) × IsPrefix v.seen (longer v.seen seen) × IsPrefix seen (longer v.seen seen)
    history_hears seen held =
        let w : View = met v seen in
        let t = passes_heard party_of (IsLegalIn S) caller_of number_of_ended entries_of_ended log count owner views h.passes id v at (known_of v) (party_pass v is) seen w (ap kept_of held) (party_pass w is) in
        (record { passes = t.0; shapes = seats_stay (λ j d. is_live d.role ≡ true → d.shape ≡ S) views id w (h.shapes id v at) (λ j d _ there. h.shapes j d there) }, t.1, t.2)

-- the same of a view that was just put there
pub sound_set : (S : Shape) (log : List Entry) (count : ℕ) (owner : ℕ → Option ℕ) (views : List View) (id : ℕ) (v w : View) → get_elem? views id ≡ some v → History S log count owner (set views id w) → w.role ≡ role.Pass → IsSoundView w
sound_set S log count owner views id v w at h is = sound_is S log count owner (set views id w) h id w (set_own views id w v at) is

-- the first view
pub history_opens : (k : Opening) → History k.shape [] 0 (λ n. if n == 0 then Some 0 else None) (first_view k ∷ [])
history_opens k = record {
  passes = passes_open party_of (IsLegalIn k.shape) caller_of number_of_ended entries_of_ended (first_view k) (Each-none (IsLawful (cells_of_shape k.shape))) refl;
  shapes = λ j d e _. let t = one_view (first_view k) j d e in ap (λ (x : View). x.shape) (sym t.1);
}
