-- From what a step tells of views to what contracts say of passes.
use Rattle.std.proofs.Common.{◌≡◌, ℕ, ◌+◌, ◌<◌, List, [], ◌∷◌, ◌++◌, refl, ap, sym, ◌∙◌, subst}
use Rattle.atomic_table.specs.Seated.{TableId}
use Rattle.any_size.specs.declared.call.BlockEntry.{BlockEntry}
use Rattle.any_size.specs.declared.view.BlockOpening.{BlockOpening}
use Rattle.any_size.specs.declared.view.BlockItem.{BlockItem}
use Rattle.any_size.specs.declared.view.Hold.{Hold}
use Rattle.any_size.specs.declared.view.BlockView.{BlockView}
use Rattle.any_size.specs.Rule.{first_view}
use Rattle.any_size.specs.Steps.{moved, IsSoundView, Grows}
use Rattle.any_size.specs.Moves.{giver, newcomer}
use Rattle.any_size.specs.States.{BlockPassState, state_of, most_passes, IsKept, Moved, Appends, Gives, Opens}
use Rattle.any_size.proofs.MoveSteps.{giver_sound, newcomer_sound}
use Rattle.any_size.proofs.Openings.{first_sound}

pub kept_of : (z : TableId) (v : BlockView) → IsSoundView v → IsKept (state_of z v)
kept_of z v h = record { legal = h.legal; own = h.own; root = h.root }

pub moved_sound : (v : BlockView) (i : BlockItem) (f : Hold) → IsSoundView v → IsSoundView (moved v i f)
moved_sound v i f h = record { role = h.role; legal = h.legal; own = h.own; root = h.root }

-- a step without an entry
pub moved_of : (z z' : TableId) (v w : BlockView) (p : BlockPassState) (i : BlockItem) (f : Hold) → state_of z v ≡ p → z' ≡ z → w ≡ moved v i f → Moved p i f (state_of z' w)
moved_of z z' v w p i f old same e = subst (λ (q : BlockPassState). Moved q i f (state_of z' w)) old (λ t. state_of (same t) (e t))

-- a step with one
pub appends_of : (z z' : TableId) (v w : BlockView) (p : BlockPassState) (x : BlockEntry) (i : BlockItem) (val : List ℕ) → state_of z v ≡ p → z' ≡ z → Grows v x i val w → Appends p x i val (state_of z' w)
appends_of z z' v w p x i val old same g = subst (λ (q : BlockPassState). Appends q x i val (state_of z' w)) old record {
  between = g.between;
  now = λ t. state_of (same t) (g.now t);
  value = g.value_is;
  kept = kept_of z' w g.sound;
}

-- ---- a number given

pub gave : (z z' y : TableId) (v w n : BlockView) (p new : BlockPassState) → state_of z v ≡ p → z' ≡ z → y ≡ z → w ≡ giver v → n ≡ newcomer v → new ≡ state_of y n → IsSoundView v → p.number ≡ 0 → v.given < most_passes → Gives p new (state_of z' w)
gave z z' y v w n p new old same too w_is n_is new_is sound zero_is left =
    let zero_v : v.number ≡ 0 = ap (λ (q : BlockPassState). q.number) old ∙ zero_is in
    subst (λ (q : BlockPassState). Gives q new (state_of z' w)) old record {
      left = left;
      root = λ t. state_of (same t) (w_is t);
      pass = new_is ∙ (λ t. state_of (too t) (n_is t));
      kept = kept_of z' w (subst IsSoundView (sym w_is) (giver_sound v sound));
      new_kept = subst IsKept (sym new_is) (kept_of y n (subst IsSoundView (sym n_is) (newcomer_sound v sound zero_v)));
    }

-- ---- blocks opened

pub opened : (k : BlockOpening) (z y : TableId) (v : BlockView) (p : BlockPassState) → p ≡ state_of y v → y ≡ z → v ≡ first_view k → Opens k.starts.items k.locks (record { id = z; starts = k.starts.items; locks = k.locks }) p
opened k z y v p p_is same v_is = record {
  starts_are = refl;
  locks_are = refl;
  root = p_is ∙ (λ t. state_of (same t) (v_is t));
  kept = subst IsKept (sym p_is) (kept_of y v (subst IsSoundView (sym v_is) (first_sound k)));
}
