-- Giving a pass and taking one back keep the rule.
use Rattle.std.proofs.Common.{◌≡◌, ℕ, ◌+◌, ◌==◌, if◌then◌else◌, List, [], ◌∷◌, ◌++◌, length, set, refl, sym, ◌∙◌, subst, arith, Option}
use Rattle.std.proofs.lemmas.List.{set-get_or}
use mathlib.Core.Option.{some}
use lib.ListN.{get_elem?}
use Rattle.atomic_table.specs.Table.{State, Me, keeps, Allows, Splits, Joins}
use Rattle.place_core.specs.Passes.{owner_given, owner_gone}
use Rattle.place_core.proofs.EntryLists.{CallersWithin-weaken, made_by-new, all_map}
use Rattle.place_core.proofs.Seats.{set_other}
use Rattle.any_size.specs.declared.call.BlockEntry.{BlockEntry}
use Rattle.any_size.specs.declared.view.BlockRole.TheVariants as role
use Rattle.any_size.specs.declared.view.Beside.{Beside}
use Rattle.any_size.specs.declared.view.Beside.TheVariants as beside
use Rattle.any_size.specs.declared.view.Hold.TheVariants.{Idle}
use Rattle.any_size.specs.declared.view.BlockItem.{BlockItem}
use Rattle.any_size.specs.declared.view.BlockView.{BlockView}
use Rattle.any_size.specs.Histories.{caller_of}
use Rattle.any_size.specs.Rule.{spent_view, History, Words, BlocksHold}
use Rattle.any_size.specs.Steps.{IsSoundView}
use Rattle.any_size.specs.Moves.{giver, newcomer, joining, taken_back, TakesFrom}
use Rattle.any_size.proofs.Frames.{words_same, words_split, words_join}
use Rattle.any_size.proofs.Histories.{history_gives, history_joins, history_learns, sound_set}

module _ (S : List (List ℕ)) (K : ℕ) where
  -- the rule where no word changed and no entry was made
  rests : (s : State (Unit {0}) BlockView) (r : BlocksHold S K s) (count : ℕ) (owner : ℕ → Option ℕ) (views : List BlockView) → History S K r.log count owner views → Words S K r.log r.state s.words views
      → BlocksHold S K record { words = s.words; homes = s.homes; views = views }
  rests s r count owner views h w = record { log = r.log; count = count; owner = owner; state = r.state; history = h; words = w }

  -- the root gives a number
  pub gives : (id : ℕ) (v : BlockView) → v.role ≡ role.Pass → v.number ≡ 0 → Splits (BlocksHold S K) id v (giver v) (newcomer v)
  gives id v is zero_is s r at = rests s r (r.count + 1) (owner_given r.owner (r.count + 1) (length (set s.views id (giver v)))) (set s.views id (giver v) ++ newcomer v ∷ [])
      (history_gives S K r.log r.count r.owner s.views r.history id v at is zero_is)
      (words_split S K r.log r.state s.words s.views r.words id v at (giver v) refl (newcomer v) refl)

  -- a pass is kept beside the root's view, and its own view is spent
  pub joins : (id : ℕ) (v : BlockView) (other : ℕ) (e : BlockView) → v.role ≡ role.Pass → v.number ≡ 0 → v.beside ≡ beside.Nobody → e.role ≡ role.Pass → e.beside ≡ beside.Nobody → e.hold ≡ Idle
      → Joins (BlocksHold S K) id v other e (joining v e) spent_view
  joins id v other e is zero_is alone too empty idle s r at apart there =
      let there' : get_elem? s.views other ≡ some e = sym (set_other s.views id other (joining v e) apart) ∙ there in
      rests s r r.count (owner_gone r.owner e.number) (set (set s.views id (joining v e)) other spent_view)
      (history_joins S K r.log r.count r.owner s.views r.history id v at is other e apart there' alone too empty zero_is)
      (words_join S K r.log r.state s.words s.views r.words id v at (joining v e) refl other e spent_view apart there' idle refl)

  -- the load that follows compares the two histories
  pub learns : (slots id : ℕ) (m : Me (Unit {0}) BlockView) (n : ℕ) (seen mine : List BlockEntry) (trail : List BlockItem) (aside : ℕ) → m.0.role ≡ role.Pass → m.0.beside ≡ beside.Pass n seen mine trail aside
      → Allows (BlocksHold S K) slots id m 0 (λ x. x) (λ _ w. (w.1 ≡ m.1) × TakesFrom m.0.beside m.0 w.0)
  learns slots id m n seen mine trail aside is held s r _ at _ =
      let v : BlockView = m.0 in
      let w : BlockView = taken_back v n seen mine trail aside in
      let h = history_learns S K r.log r.count r.owner s.views r.history id v at is n seen mine trail aside held in (
        w,
        keeps,
        tt,
        subst (λ (ws : List ℕ). BlocksHold S K record { words = ws; homes = s.homes; views = set s.views id w }) (sym (set-get_or s.words 0 0))
            (rests s r r.count r.owner (set s.views id w) h.0 (words_same S K r.log r.state s.words s.views r.words id v at w refl)),
        (
          refl,
          subst (λ (z : Beside). TakesFrom z v w) (sym held) record { now = refl; old = h.1; other = h.2; sound = sound_set S K r.log r.count r.owner s.views id v w at h.0 is },
        ),
      )

-- ---- sound views

pub giver_sound : (v : BlockView) → IsSoundView v → IsSoundView (giver v)
giver_sound v h = record {
  role = h.role;
  legal = h.legal;
  own = h.own;
  root = λ z. let r = h.root z in record {
    callers = CallersWithin-weaken caller_of v.given (v.given + 1) v.seen (omega arith) r.callers;
    back = all_map _ _ v.ended (λ e f. let within = f.within in record { from_one = f.from_one; within = omega arith; own = f.own }) r.back;
    once = r.once;
  };
}

pub newcomer_sound : (v : BlockView) → IsSoundView v → v.number ≡ 0 → IsSoundView (newcomer v)
newcomer_sound v h z = let r = h.root z in record {
  role = refl;
  legal = h.legal;
  own = made_by-new caller_of v.given (v.given + 1) v.seen r.callers (omega arith);
  root = λ bad. absurd (omega arith);
}
