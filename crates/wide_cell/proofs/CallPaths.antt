-- The steps of a call on parts, as a path of the call.
use Rattle.std.proofs.Common.{◌≡◌, ◌≢◌, ◌⊎◌, inl, inr, ℕ, suc, true, false, List, [], ◌∷◌, ◌++◌, length, Some, refl, ap, sym, ◌∙◌, subst}
use Rattle.std.proofs.lemmas.List.{append-nil}
use Rattle.op_table.specs.declared.call.Call.{Call}
use Rattle.op_table.specs.declared.call.Call.TheVariants.{Load}
use Rattle.op_table.specs.declared.call.Reply.{Reply}
use Rattle.op_table.specs.declared.call.Reply.TheVariants.{Value}
use Rattle.op_table.specs.CallTests.{is_load}
use Rattle.op_table.proofs.CallKinds.{load_is}
use Rattle.place_core.specs.declared.shape.Shape.{Shape}
use Rattle.place_core.proofs.Earning.{table_reply_is_not_spurious}
use Rattle.seat_views.specs.declared.view.Item.{Item}
use Rattle.seat_views.specs.declared.view.Flight.TheVariants.{Idle}
use Rattle.seat_views.specs.declared.view.StepKind.TheVariants as step
use Rattle.seat_views.specs.Places.{HasParts, parts_of, word_of_lock}
use Rattle.seat_views.specs.Items.{number_at}
use Rattle.seat_views.specs.Steps.{item, entry}
use Rattle.seat_views.specs.Paths.{eat_run, IsPath}
use Rattle.seat_views.specs.StepCounts.{IsNoGlance}
use Rattle.seat_views.specs.States.{PassState}
use Rattle.seat_views.specs.Makes.{MakesCall}
use Rattle.seat_views.proofs.PathFronts.{run_front, number_after}
use Rattle.seat_views.proofs.PathPieces.{matched_glance_is_path, missed_glance_goes_on}
use Rattle.seq_lock.proofs.LockedCalls.{made_after}
use Rattle.seq_lock.proofs.LockedPaths.{count_at, locked_at}
use Rattle.seq_lock.specs.declared.glances.Missed.{Missed}
use Rattle.seq_lock.specs.declared.glances.Missed.TheVariants.{Held, Moved, Last}
use Rattle.seq_lock.specs.Holds.{first_word, MakesLocked}
use Rattle.wide_cell.specs.Looks.{IsWhole, GlanceHits, MissedBy, GlanceMisses}

-- ---- numbers of a whole glance

run_length : (w n : ℕ) (T : List Item) → eat_run step.Part w n T ≡ Some [] → length T ≡ n
run_length w n T e = let F = run_front step.Part w n T [] e in ap (λ (l : List Item). length l) (F.0.split ∙ append-nil F.0.front) ∙ F.1

module _ (S : Shape) (o f s : ℕ) (T : List Item) (w : IsWhole S o f s T) where
  first_number : number_at 0 T ≡ f
  first_number = ap (number_at 0) w.split

  last_number : number_at (suc (parts_of S o)) T ≡ s
  last_number = ap (number_at (suc (parts_of S o))) w.split
      ∙ (ap (λ (z : ℕ). number_at z (w.parts ++ item (word_of_lock S o) step.Match s ∷ [])) (sym (run_length (first_word S o) (parts_of S o) w.parts w.run)) ∙ number_after w.parts (item (word_of_lock S o) step.Match s) [])

  begun : IsNoGlance T → ⊥
  begun (inl e) = w.free (sym first_number ∙ e)
  begun (inr e) = w.going (sym first_number ∙ e)

module _ (S : Shape) (o : ℕ) (has : HasParts S o) where
  -- a load by a glance
  pub hit_path : (p q : PassState) (v : ℕ) → S.section ≡ false → (h : GlanceHits S o p v q) → IsPath S o Load (Value v) h.steps
  hit_path p q v elsewhere h = matched_glance_is_path S o (Value v) h.steps has.lock has.first has.count has.bits has.place elsewhere h.glance (begun S o h.stamp h.stamp h.steps h.whole)
      (ap (λ (z : ℕ). number_at (suc z) h.steps) (sym (count_at S o has)) ∙ (last_number S o h.stamp h.stamp h.steps h.whole ∙ sym (first_number S o h.stamp h.stamp h.steps h.whole)))

  unfoldable pub hit_load : (p q : PassState) (v : ℕ) → S.section ≡ false → GlanceHits S o p v q → MakesCall S o Load p (Value v) q
  hit_load p q v elsewhere h = record {
    steps = h.steps;
    made = h.made;
    path = hit_path p q v elsewhere h;
    earned = λ spurious. absurd (table_reply_is_not_spurious S (entry p.number o Load (Value v)) v refl spurious);
  }

  pub hit_call : (call : Call) (p q : PassState) (v : ℕ) → S.section ≡ false → is_load call ≡ true → GlanceHits S o p v q → MakesCall S o call p (Value v) q
  hit_call call p q v elsewhere load h = subst (λ (c : Call). MakesCall S o c p (Value v) q) (sym (load_is call load)) (hit_load p q v elsewhere h)

  missed_why : (m : Missed) (T : List Item) → MissedBy S o m T → IsNoGlance T ⊎ (number_at (suc has.count) T ≢ number_at 0 T)
  missed_why Held T e = inl (inl (ap (number_at 0) e))
  missed_why Last T e = inl (inr (ap (number_at 0) e))
  missed_why (Moved x y) T h = inr (λ same. h.1 (sym (first_number S o x y T h.0) ∙ (sym same ∙ (ap (λ (z : ℕ). number_at (suc z) T) (sym (count_at S o has)) ∙ last_number S o x y T h.0))))

  -- a load by a glance that missed, and then under the lock
  pub missed_path : (p q z : PassState) (m : Missed) (r : Reply) → S.section ≡ false → (a : GlanceMisses S o p m q) (h : MakesLocked S o Load q r z) → IsPath S o Load r (a.steps ++ h.steps)
  missed_path p q z m r elsewhere a h = missed_glance_goes_on S o r a.steps h.steps has.lock has.first has.count has.bits has.place elsewhere a.glance (missed_why m a.steps a.why) (locked_at S o has false h.steps h.eaten)

  unfoldable pub missed_load : (p q z : PassState) (m : Missed) (r : Reply) → S.section ≡ false → GlanceMisses S o p m q → MakesLocked S o Load q r z → MakesCall S o Load p r z
  missed_load p q z m r elsewhere a h = record {
    steps = a.steps ++ h.steps;
    made = made_after p q z a.steps h.steps Idle o Load r a.state h.made;
    path = missed_path p q z m r elsewhere a h;
    earned = λ spurious. absurd (table_reply_is_not_spurious S (entry p.number o Load r) h.value h.reply spurious);
  }

  pub missed_call : (call : Call) (p q z : PassState) (m : Missed) (r : Reply) → S.section ≡ false → is_load call ≡ true → GlanceMisses S o p m q → MakesLocked S o call q r z → MakesCall S o call p r z
  missed_call call p q z m r elsewhere load a h = let e = load_is call load in
      subst (λ (c : Call). MakesCall S o c p r z) (sym e) (missed_load p q z m r elsewhere a (subst (λ (c : Call). MakesLocked S o c q r z) e h))
