-- The part of the rule on the history, after each kind of step.
use Rattle.std.proofs.Common.{◌≡◌, ◌≢◌, ℕ, ◌+◌, ◌==◌, if◌then◌else◌, true, List, [], ◌∷◌, ◌++◌, length, set, refl, ap, sym, subst, Option, Some, None}
use mathlib.Core.List.{IsPrefix}
use mathlib.Core.Option.{some}
use lib.ListN.{get_elem?}
use Rattle.place_core.specs.Histories.{Each}
use Rattle.place_core.specs.Passes.{PassOf, KnowsPass, longer, owner_given, owner_gone}
use Rattle.place_core.proofs.EntryLists.{Each-none, Each-more, Each-prefix}
use Rattle.place_core.proofs.Seats.{seats_stay, seats_split, seats_join, set_own, one_view}
use Rattle.place_core.proofs.PassLaws.{root_sound}
use Rattle.place_core.proofs.PassSteps.{knows_pass, passes_same, passes_entry, passes_given, passes_keep, passes_end, passes_open}
use Rattle.any_size.specs.declared.call.BlockEntry.{BlockEntry}
use Rattle.any_size.specs.declared.view.BlockOpening.{BlockOpening}
use Rattle.any_size.specs.declared.view.BlockRole.TheVariants as role
use Rattle.any_size.specs.declared.view.Beside.TheVariants as beside
use Rattle.any_size.specs.declared.view.Hold.{Hold}
use Rattle.any_size.specs.declared.view.BlockItem.{BlockItem}
use Rattle.any_size.specs.declared.view.BlockView.{BlockView}
use Rattle.any_size.specs.Histories.{IsLawful, IsLegal, caller_of}
use Rattle.any_size.specs.Rule.{first_view, spent_view, kept_of, known_of, party_at, party_of, is_live, number_of_ended, entries_of_ended, Carries, History}
use Rattle.any_size.specs.Steps.{grown, moved, IsSoundView}
use Rattle.any_size.specs.Moves.{giver, newcomer, joining, ended_pass, taken_back}

-- a pass as the history sees it
pub party_pass : (v : BlockView) → v.role ≡ role.Pass → party_of v ≡ PassOf (known_of v)
party_pass v is = ap (λ r. party_at r (known_of v)) is

module _ (S : List (List ℕ)) (K : ℕ) (log : List BlockEntry) (count : ℕ) (owner : ℕ → Option ℕ) (views : List BlockView) (h : History S K log count owner views) (id : ℕ) (v : BlockView) (at : get_elem? views id ≡ some v) where
  -- a view that the history sees as the same
  pub history_same : (w : BlockView) → party_of w ≡ party_of v → (is_live w.role ≡ true → Carries S K w) → History S K log count owner (set views id w)
  history_same w same carried = record {
    passes = passes_same party_of (IsLegal S) caller_of number_of_ended entries_of_ended log count owner views h.passes id v at w same;
    carried = seats_stay (λ j d. is_live d.role ≡ true → Carries S K d) views id w carried (λ j d _ there. h.carried j d there);
  }

  -- one more step, and another call in flight
  pub history_moved : (i : BlockItem) (f : Hold) → History S K log count owner (set views id (moved v i f))
  history_moved i f = history_same (moved v i f) refl (h.carried id v at)

  module _ (is : v.role ≡ role.Pass) where
    pub pass_known : KnowsPass caller_of number_of_ended entries_of_ended log count owner id (known_of v)
    pass_known = knows_pass party_of (IsLegal S) caller_of number_of_ended entries_of_ended log count owner views h.passes id v at (known_of v) (party_pass v is)

    pub carries : Carries S K v
    carries = h.carried id v at (ap is_live is)

    -- what the rule knows of a pass makes its view sound
    pub sound_is : IsSoundView v
    sound_is = let k = pass_known in record {
      role = is;
      legal = subst (λ (T : List (List ℕ)). IsLegal T v.seen) (sym carries.0) (Each-prefix (IsLawful S) v.seen log k.prefix (let p = h.passes in p.legal));
      own = k.own;
      root = root_sound caller_of number_of_ended entries_of_ended log count owner id (known_of v) (let p = h.passes in p.callers) k;
    }

    -- one more entry of the pass's own
    pub history_adds : (x : BlockEntry) (i : BlockItem) → x.caller ≡ v.number → IsLawful S log x → History S K (log ++ x ∷ []) count owner (set views id (grown v log x i))
    history_adds x i own law = record {
      passes = passes_entry party_of (IsLegal S) caller_of number_of_ended entries_of_ended log count owner views h.passes id v at (known_of v) (party_pass v is) x (grown v log x i) own
          ((Each-more (IsLawful S) log x).1 ((let p = h.passes in p.legal), law)) (party_pass (grown v log x i) is);
      carried = seats_stay (λ j d. is_live d.role ≡ true → Carries S K d) views id (grown v log x i) (h.carried id v at) (λ j d _ there. h.carried j d there);
    }

    -- the root gives a number
    pub history_gives : v.number ≡ 0 → History S K log (count + 1) (owner_given owner (count + 1) (length (set views id (giver v)))) (set views id (giver v) ++ newcomer v ∷ [])
    history_gives zero_is = record {
      passes = passes_given party_of (IsLegal S) caller_of number_of_ended entries_of_ended log count owner views h.passes id v at (known_of v) (party_pass v is) (giver v) (newcomer v) zero_is (party_pass (giver v) is) refl;
      carried = seats_split (λ j d. is_live d.role ≡ true → Carries S K d) views id (giver v) (newcomer v) (h.carried id v at) (λ _. carries) (λ j d _ there. h.carried j d there);
    }

    -- a pass is kept beside the root's view, and its own view is spent
    pub history_joins : (other : ℕ) (e : BlockView) → other ≢ id → get_elem? views other ≡ some e → v.beside ≡ beside.Nobody → e.role ≡ role.Pass → e.beside ≡ beside.Nobody → v.number ≡ 0
        → History S K log count (owner_gone owner e.number) (set (set views id (joining v e)) other spent_view)
    history_joins other e apart there alone too empty zero_is = record {
      passes = passes_keep party_of (IsLegal S) caller_of number_of_ended entries_of_ended log count owner views h.passes id v at (known_of v) (party_pass v is) other e (joining v e) spent_view apart there (ap kept_of alone) refl
          (known_of e) (party_pass e too) (ap kept_of empty) zero_is (party_pass (joining v e) is);
      carried = seats_join (λ j d. is_live d.role ≡ true → Carries S K d) views id other (joining v e) spent_view (h.carried id v at) (λ bad. absurd cc) (λ j d _ _ at'. h.carried j d at');
    }

    -- the pass that was kept is taken in
    pub history_learns : (n : ℕ) (seen mine : List BlockEntry) (trail : List BlockItem) (aside : ℕ) → v.beside ≡ beside.Pass n seen mine trail aside
        → History S K log count owner (set views id (taken_back v n seen mine trail aside)) × IsPrefix v.seen (longer v.seen seen) × IsPrefix seen (longer v.seen seen)
    history_learns n seen mine trail aside held =
        let w : BlockView = taken_back v n seen mine trail aside in
        let t = passes_end party_of (IsLegal S) caller_of number_of_ended entries_of_ended log count owner views h.passes id v at (known_of v) (party_pass v is) n seen mine (ended_pass n mine trail aside) w (ap kept_of held) refl refl (party_pass w is) in
        (record { passes = t.0; carried = seats_stay (λ j d. is_live d.role ≡ true → Carries S K d) views id w (h.carried id v at) (λ j d _ there. h.carried j d there) }, t.1, t.2)

-- the same of a view that was just put there
pub sound_set : (S : List (List ℕ)) (K : ℕ) (log : List BlockEntry) (count : ℕ) (owner : ℕ → Option ℕ) (views : List BlockView) (id : ℕ) (v w : BlockView) → get_elem? views id ≡ some v → History S K log count owner (set views id w)
    → w.role ≡ role.Pass → IsSoundView w
sound_set S K log count owner views id v w at h is = sound_is S K log count owner (set views id w) h id w (set_own views id w v at) is

-- the first view
pub history_opens : (k : BlockOpening) → History k.starts.items k.locks [] 0 (λ n. if n == 0 then Some 0 else None) (first_view k ∷ [])
history_opens k = record {
  passes = passes_open party_of (IsLegal k.starts.items) caller_of number_of_ended entries_of_ended (first_view k) (Each-none (IsLawful k.starts.items)) refl;
  carried = λ j d e _. let t = one_view (first_view k) j d e in (ap (λ (x : BlockView). x.starts) (sym t.1), ap (λ (x : BlockView). x.locks) (sym t.1));
}
