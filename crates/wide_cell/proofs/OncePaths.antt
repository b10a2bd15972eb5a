-- A call that takes the lock at most once: the steps of it that are takes, and the last of them.
use Rattle.std.proofs.Common.{◌≡◌, ℕ, ◌==◌, Bool, true, false, List, [], ◌∷◌, ◌++◌, refl, ap, sym, subst, arith}
use Rattle.std.specs.Prelude.{Option, Some, None, IfSome}
use Rattle.op_table.specs.declared.call.Call.{Call}
use Rattle.op_table.specs.declared.call.Call.TheVariants.{Load}
use Rattle.op_table.specs.declared.call.Reply.{Reply}
use Rattle.op_table.specs.declared.call.Reply.TheVariants.{Value}
use Rattle.op_table.specs.CallTests.{is_load}
use Rattle.op_table.proofs.CallKinds.{load_is}
use Rattle.place_core.specs.declared.shape.Shape.{Shape}
use Rattle.seat_views.specs.declared.view.Item.{Item}
use Rattle.seat_views.specs.declared.view.Flight.TheVariants.{Idle}
use Rattle.seat_views.specs.declared.view.StepKind.TheVariants as step
use Rattle.seat_views.specs.Places.{HasParts, word_of_lock}
use Rattle.seat_views.specs.Items.{kind_code, count_of}
use Rattle.seat_views.specs.Steps.{item}
use Rattle.seat_views.specs.PathLaws.{ReleasesLast}
use Rattle.seat_views.specs.States.{PassState}
use Rattle.seat_views.proofs.PathFronts.{just_at, count_append}
use Rattle.seat_views.proofs.PathPieces.{glance_is_short}
use Rattle.seat_views.proofs.PathReleases.{call_releases_last, load_releases_last}
use Rattle.seq_lock.specs.declared.glances.Missed.{Missed}
use Rattle.seq_lock.specs.Once.{FoundHeld, MakesLockedOnce}
use Rattle.seq_lock.proofs.LockedPaths.{straight_else, locked_call}
use Rattle.seq_lock.proofs.Trails.{steps_then}
use Rattle.wide_cell.specs.Looks.{GlanceHits, GlanceMisses}
use Rattle.wide_cell.specs.Once.{EndsInNoTake, MakesOnce, ComesBeforeTake, GivesUp}
use Rattle.wide_cell.proofs.CallPaths.{hit_load, missed_load}

-- a release is no take
release_ends : (S : Shape) (l : ℕ) (writes : Bool) (T : List Item) → ReleasesLast S l writes T → EndsInNoTake T
release_ends S l writes T e = record {
  before = e.before;
  last = e.last;
  split = e.split;
  no_take = ap (λ (z : ℕ). z == kind_code step.Take) (just_at step.Release _ _ e.last e.stores).0;
}

-- a call that isn't a load does nothing before its take
nothing_before : (S : Shape) (o : ℕ) (call : Call) → is_load call ≡ false → ComesBeforeTake S o call []
nothing_before S o Load e = absurd cc
nothing_before S o _ e = refl

module _ (S : Shape) (o : ℕ) (has : HasParts S o) where
  glance_takes : (p q : PassState) (m : Missed) (a : GlanceMisses S o p m q) → count_of step.Take a.steps ≡ 0
  glance_takes p q m a = (glance_is_short S o a.steps has.lock has.first has.count has.bits has.place a.glance).2

  pub hit_once : (call : Call) (p q : PassState) (v : ℕ) → S.section ≡ false → is_load call ≡ true → GlanceHits S o p v q → MakesOnce S o call p (Value v) q
  unfolding hit_load
  hit_once call p q v elsewhere load h = subst (λ (c : Call). MakesOnce S o c p (Value v) q) (sym (load_is call load)) record {
    made = hit_load S o has p q v elsewhere h;
    once = (let none = (glance_is_short S o h.steps has.lock has.first has.count has.bits has.place h.glance).2 in omega arith);
    ends = (let w = h.whole in record {
      before = item (word_of_lock S o) step.Stamp h.stamp ∷ w.parts;
      last = item (word_of_lock S o) step.Match h.stamp;
      split = w.split;
      no_take = refl;
    });
  }

  pub missed_once : (call : Call) (p q z : PassState) (m : Missed) (r : Reply) → S.section ≡ false → is_load call ≡ true → GlanceMisses S o p m q → MakesLockedOnce S o call q r z → MakesOnce S o call p r z
  unfolding missed_load
  missed_once call p q z m r elsewhere load a h = let e = load_is call load in
      subst (λ (c : Call). MakesOnce S o c p r z) (sym e) (go (subst (λ (c : Call). MakesLockedOnce S o c q r z) e h))
    where
      one : (k : MakesLockedOnce S o Load q r z) → (let l = k.locked in count_of step.Take (a.steps ++ l.steps) ≡ 1)
      one k = let l = k.locked in let once = k.once in let none = glance_takes p q m a in
          let both = count_append step.Take a.steps l.steps in omega arith

      go : MakesLockedOnce S o Load q r z → MakesOnce S o Load p r z
      go k = let l = k.locked in let c = missed_load S o has p q z m r elsewhere a l in let taken = one k in record {
        made = missed_load S o has p q z m r elsewhere a l;
        once = omega arith;
        ends = release_ends S has.lock false (a.steps ++ l.steps) (load_releases_last S o r (a.steps ++ l.steps) has.lock has.first has.count has.bits has.place c.path (omega arith));
      }

  pub else_once : (call : Call) (p q : PassState) (r : Reply) → is_load call ≡ false → MakesLockedOnce S o call p r q → MakesOnce S o call p r q
  unfolding locked_call
  else_once call p q r other k = let l = k.locked in let once = k.once in let c = locked_call S o has call p q r (straight_else (is_load call) S.section other) l in record {
    made = locked_call S o has call p q r (straight_else (is_load call) S.section other) l;
    once = omega arith;
    ends = release_ends S has.lock _ l.steps (call_releases_last S o call r l.steps has.lock has.first has.count has.bits has.place other c.path);
  }

  -- ---- the take found the lock held

  pub missed_gives_up : (call : Call) (p q z : PassState) (m : Missed) → is_load call ≡ true → GlanceMisses S o p m q → FoundHeld S o q z → GivesUp S o call p z
  missed_gives_up call p q z m load a h = subst (λ (c : Call). GivesUp S o c p z) (sym (load_is call load)) record {
    before = a.steps;
    looked = record { why = m; missed = a.why; glance = a.glance };
    state = steps_then p q z a.steps (item (word_of_lock S o) step.Take 1 ∷ []) Idle Idle a.state h.state;
    kept = h.kept;
  }

  pub else_gives_up : (call : Call) (p q : PassState) → is_load call ≡ false → FoundHeld S o p q → GivesUp S o call p q
  else_gives_up call p q other h = record { before = []; looked = nothing_before S o call other; state = h.state; kept = h.kept }

  -- ---- for either answer

  pub missed_made : (call : Call) (p q z : PassState) (m : Missed) (x : Option Reply) → S.section ≡ false → is_load call ≡ true → GlanceMisses S o p m q → IfSome x (λ r. MakesLockedOnce S o call q r z) → IfSome x (λ r. MakesOnce S o call p r z)
  missed_made call p q z m None elsewhere load a h = tt
  missed_made call p q z m (Some r) elsewhere load a h = missed_once call p q z m r elsewhere load a h

  pub else_made : (call : Call) (p q : PassState) (x : Option Reply) → is_load call ≡ false → IfSome x (λ r. MakesLockedOnce S o call p r q) → IfSome x (λ r. MakesOnce S o call p r q)
  else_made call p q None other h = tt
  else_made call p q (Some r) other h = else_once call p q r other h
