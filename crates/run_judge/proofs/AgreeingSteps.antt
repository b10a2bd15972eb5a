-- By agreeing steps exactly the states of agreeing beginnings of runs are reached.
use Rattle.std.proofs.Common.{◌≡◌, ◌⊎◌, ◌↔◌, inl, inr, ℕ, zero, suc, ◌+◌, ◌*◌, ◌/◌, ◌<◌, Bool, true, if◌then◌else◌, List, [], ◌∷◌, ◌++◌, length, map, Option, Some, None, refl, ap, sym, ◌∙◌, subst, arith, length-append}
use Rattle.std.specs.Prelude.{slice_get}
use mathlib.Core.List.{IsPrefix}
use mathlib.Core.Logic.{dite}
use native.Mathlib.Decide.{ℕ_discrete}
use Rattle.op_table.specs.declared.call.Reply.{Reply}
use Rattle.place_core.specs.declared.entry.Entry.{Entry}
use Rattle.place_core.specs.declared.script.Line.{Line}
use Rattle.place_core.specs.declared.shape.Shape.{Shape}
use Rattle.place_core.specs.Cells.{entries_by}
use Rattle.place_core.specs.Runs.{ScriptsFit, replies_by}
use Rattle.place_core.specs.Shapes.{cells_of_shape}
use Rattle.place_core.proofs.EntryLists.{made_by-none}
use Rattle.outcomes.specs.Reached.{Reached, begins, goes}
use Rattle.run_steps.specs.declared.moves.Move.{Move}
use Rattle.run_steps.specs.Parts.{IsPart}
use Rattle.run_steps.specs.Standing.{state_of, made_count}
use Rattle.run_steps.specs.Steps.{move_of, state_after}
use Rattle.run_steps.proofs.Lists.{true_or_false, prefix_at, prefix_one_more, prefix_front, prefix_nil, map-snoc, length-map'}
use Rattle.run_steps.proofs.NextEntries.{entries_own, entries_other, IsPart-none, IsPart-front}
use Rattle.run_steps.proofs.CellSteps.{move_for, state_step}
use Rattle.run_steps.proofs.Choices.{entry_of_choice, choice_of_entry}
use Rattle.run_judge.specs.Agreeing.{replies_at, is_told, agrees_with, after_agreeing, agreeing_step, Agrees, IsOfAgreeing}
use Rattle.run_judge.proofs.SameReplies.{told_is, is_told-self}

-- ---- one more entry

module _ (wanted : List (List Reply)) (G : List Entry) (x : Entry) where
  replies_own : (u : ℕ) → x.caller ≡ u + 1 → replies_by (G ++ x ∷ []) (u + 1) ≡ replies_by G (u + 1) ++ x.reply ∷ []
  replies_own u own = ap (map (λ (y : Entry). y.reply)) (entries_own G x (u + 1) own) ∙ map-snoc (λ (y : Entry). y.reply) (entries_by G (u + 1)) x

  pub Agrees-more : (t : ℕ) → x.caller ≡ t + 1 → Agrees wanted G → slice_get (replies_at wanted t) (made_count G t) ≡ Some x.reply → Agrees wanted (G ++ x ∷ [])
  Agrees-more t caller agrees told u = dite (ℕ_discrete x.caller (u + 1))
      (λ own. let same : t ≡ u = omega (arith, caller, own) in
      subst (λ l. IsPrefix l (replies_at wanted u)) (sym (replies_own u own))
      (prefix_one_more (replies_by G (u + 1)) (replies_at wanted u) x.reply (agrees u)
      (ap (slice_get (replies_at wanted u)) (length-map' (λ (y : Entry). y.reply) (entries_by G (u + 1))) ∙ subst (λ v. slice_get (replies_at wanted v) (made_count G v) ≡ Some x.reply) same told)))
      (λ other. subst (λ l. IsPrefix (map (λ (y : Entry). y.reply) l) (replies_at wanted u)) (sym (entries_other G x (u + 1) other)) (agrees u))

  pub Agrees-front : Agrees wanted (G ++ x ∷ []) → Agrees wanted G
  Agrees-front agrees u = dite (ℕ_discrete x.caller (u + 1))
      (λ own. prefix_front (replies_by G (u + 1)) (x.reply ∷ []) (replies_at wanted u) (subst (λ l. IsPrefix l (replies_at wanted u)) (replies_own u own) (agrees u)))
      (λ other. subst (λ l. IsPrefix (map (λ (y : Entry). y.reply) l) (replies_at wanted u)) (entries_other G x (u + 1) other) (agrees u))

  pub Agrees-last : (t : ℕ) → x.caller ≡ t + 1 → Agrees wanted (G ++ x ∷ []) → slice_get (replies_at wanted t) (made_count G t) ≡ Some x.reply
  Agrees-last t caller agrees =
      ap (slice_get (replies_at wanted t)) (sym (length-map' (λ (y : Entry). y.reply) (entries_by G (t + 1))))
      ∙ prefix_at (replies_by G (t + 1)) (replies_at wanted t) x.reply (subst (λ l. IsPrefix l (replies_at wanted t)) (replies_own t caller) (agrees t))

pub Agrees-none : (wanted : List (List Reply)) → Agrees wanted []
Agrees-none wanted t = subst (λ l. IsPrefix (map (λ (y : Entry). y.reply) l) (replies_at wanted t)) (sym (made_by-none (λ (y : Entry). y.caller) (t + 1))) (prefix_nil (replies_at wanted t))

-- ---- what is reached

last_cut : {X : Type 0} (xs : List X) → (xs ≡ []) ⊎ ((ys : List X) × (y : X) × (xs ≡ ys ++ y ∷ []))
last_cut [] = inl refl
last_cut (x ∷ xs) = elim (last_cut xs) [ inl none ↦ inr ([], x, ap (λ l. x ∷ l) none) | inr (ys, y, e) ↦ inr (x ∷ ys, y, ap (λ l. x ∷ l) e) ]

module _ (S : Shape) (scripts : List (List Line)) (kept : ℕ) (wanted : List (List Reply)) (fits : ScriptsFit (cells_of_shape S) scripts) where
  one_step : (s t : List ℕ) (k : ℕ) → IsOfAgreeing S scripts kept wanted s → k < 2 * length scripts → agreeing_step S scripts kept wanted s k ≡ Some t → IsOfAgreeing S scripts kept wanted t
  one_step s t k of below leads = go (move_of S scripts (state_of S scripts kept of.history) k) refl
    where
      there : after_agreeing S scripts kept wanted (state_of S scripts kept of.history) (move_of S scripts (state_of S scripts kept of.history) k) ≡ Some t
      there = subst (λ z. agreeing_step S scripts kept wanted z k ≡ Some t) of.same leads

      go : (m : Option Move) → move_of S scripts (state_of S scripts kept of.history) k ≡ m → IsOfAgreeing S scripts kept wanted t
      go None is = let clash : None ≡ Some t = sym (ap (after_agreeing S scripts kept wanted (state_of S scripts kept of.history)) is) ∙ there in absurd cc
      go (Some move) is =
          let G : List Entry = of.history in
          let next = entry_of_choice S scripts kept G fits of.part k move below is in
          let x : Entry = next.0 in
          let after : (if agrees_with wanted move then Some (state_after S scripts kept (state_of S scripts kept G) move) else None) ≡ Some t = sym (ap (after_agreeing S scripts kept wanted (state_of S scripts kept G)) is) ∙ there in
          elim (true_or_false (agrees_with wanted move)) [
            | inl yes' ↦
                let after' : Some (state_after S scripts kept (state_of S scripts kept G) move) ≡ Some t = sym (ap (λ (b : Bool). let o : Option (List ℕ) = if b then Some (state_after S scripts kept (state_of S scripts kept G) move) else None in o) yes') ∙ after in
                let same : state_after S scripts kept (state_of S scripts kept G) move ≡ t = cc (after') in
                let told : is_told x.reply (slice_get (replies_at wanted (k / 2)) (made_count G (k / 2))) ≡ true = subst (λ (m : Move). agrees_with wanted m ≡ true) next.3 yes' in
                record {
                  history = G ++ x ∷ [];
                  part = next.2;
                  agrees = Agrees-more wanted G x (k / 2) next.1 of.agrees (told_is x.reply (slice_get (replies_at wanted (k / 2)) (made_count G (k / 2))) told);
                  same = sym same ∙ ap (state_after S scripts kept (state_of S scripts kept G)) next.3 ∙ sym (state_step S scripts kept G x (k / 2) next.1);
                }
            | inr no' ↦
                let clash : None ≡ Some t = sym (ap (λ (b : Bool). let o : Option (List ℕ) = if b then Some (state_after S scripts kept (state_of S scripts kept G) move) else None in o) no') ∙ after in absurd cc
          ]

  part_of : (s : List ℕ) → Reached (2 * length scripts) (agreeing_step S scripts kept wanted) (state_of S scripts kept []) s → IsOfAgreeing S scripts kept wanted s
  part_of s begins = record { history = []; part = IsPart-none S scripts; agrees = Agrees-none wanted; same = refl }
  part_of s (goes p t k reached below leads) = one_step p t k (part_of p reached) below leads

  reached_of : (count : ℕ) (H : List Entry) → length H ≡ count → IsPart S scripts H → Agrees wanted H → Reached (2 * length scripts) (agreeing_step S scripts kept wanted) (state_of S scripts kept []) (state_of S scripts kept H)
  reached_of zero [] size part agrees = begins
  reached_of zero (x ∷ H) size part agrees = absurd (omega arith)
  reached_of (suc count) H size part agrees = elim (last_cut H) [
    | inl none ↦ absurd (omega (arith, size, ap length none))
    | inr (G, x, e) ↦
        let part' : IsPart S scripts (G ++ x ∷ []) = subst (IsPart S scripts) e part in
        let agrees' : Agrees wanted (G ++ x ∷ []) = subst (Agrees wanted) e agrees in
        let shorter : length G ≡ count = omega (arith, size, ap length e, length-append G (x ∷ [])) in
        let before = reached_of count G shorter (IsPart-front S scripts G x part') (Agrees-front wanted G x agrees') in
        let choice = choice_of_entry S scripts kept G fits x part' in
        let told : agrees_with wanted (move_for S G x choice.1) ≡ true = is_told-self x.reply (slice_get (replies_at wanted choice.1) (made_count G choice.1)) (Agrees-last wanted G x choice.1 choice.3 agrees') in
        let leads : agreeing_step S scripts kept wanted (state_of S scripts kept G) choice.0 ≡ Some (state_of S scripts kept (G ++ x ∷ [])) =
        ap (after_agreeing S scripts kept wanted (state_of S scripts kept G)) choice.4
        ∙ ap (λ (b : Bool). let o : Option (List ℕ) = if b then Some (state_after S scripts kept (state_of S scripts kept G) (move_for S G x choice.1)) else None in o) told
        ∙ ap Some (sym (state_step S scripts kept G x choice.1 choice.3)) in
        subst (λ K. Reached (2 * length scripts) (agreeing_step S scripts kept wanted) (state_of S scripts kept []) (state_of S scripts kept K)) (sym e)
        (goes (state_of S scripts kept G) (state_of S scripts kept (G ++ x ∷ [])) choice.0 before choice.2 leads)
  ]

  pub agreeing_reached : (s : List ℕ) → Reached (2 * length scripts) (agreeing_step S scripts kept wanted) (state_of S scripts kept []) s ↔ IsOfAgreeing S scripts kept wanted s
  agreeing_reached s = (
    part_of s,
    λ of. subst (Reached (2 * length scripts) (agreeing_step S scripts kept wanted) (state_of S scripts kept [])) (sym of.same) (reached_of (length of.history) of.history refl of.part of.agrees),
  )
