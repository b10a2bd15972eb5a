-- By steps exactly the states of beginnings of runs are reached.
use Rattle.std.proofs.Common.{◌≡◌, ◌⊎◌, inl, inr, ℕ, zero, suc, ◌*◌, ◌/◌, ◌<◌, List, [], ◌∷◌, ◌++◌, length, Option, Some, None, refl, ap, sym, ◌∙◌, subst, arith, length-append}
use Rattle.place_core.specs.declared.entry.Entry.{Entry}
use Rattle.place_core.specs.declared.script.Line.{Line}
use Rattle.place_core.specs.declared.shape.Shape.{Shape}
use Rattle.place_core.specs.Runs.{ScriptsFit}
use Rattle.place_core.specs.Shapes.{cells_of_shape}
use Rattle.outcomes.specs.Reached.{Reached, begins, goes}
use Rattle.run_steps.specs.Parts.{IsPart}
use Rattle.run_steps.specs.Standing.{state_of}
use Rattle.run_steps.specs.declared.moves.Move.{Move}
use Rattle.run_steps.specs.Steps.{move_of, state_after, after_move, step_of}
use Rattle.run_steps.specs.Laws.{IsOfPart, StepsMakeParts}
use Rattle.run_steps.proofs.NextEntries.{IsPart-none, IsPart-front}
use Rattle.run_steps.proofs.CellSteps.{state_step}
use Rattle.run_steps.proofs.Choices.{entry_of_choice, choice_of_entry}

-- a list is empty, or has a last element
last_cut : {X : Type 0} (xs : List X) → (xs ≡ []) ⊎ ((ys : List X) × (y : X) × (xs ≡ ys ++ y ∷ []))
last_cut [] = inl refl
last_cut (x ∷ xs) = elim (last_cut xs) [ inl none ↦ inr ([], x, ap (λ l. x ∷ l) none) | inr (ys, y, e) ↦ inr (x ∷ ys, y, ap (λ l. x ∷ l) e) ]

module _ (S : Shape) (scripts : List (List Line)) (kept : ℕ) (fits : ScriptsFit (cells_of_shape S) scripts) where
  pub one_step : (s t : List ℕ) (k : ℕ) → IsOfPart S scripts kept s → k < 2 * length scripts → step_of S scripts kept s k ≡ Some t → IsOfPart S scripts kept t
  one_step s t k of below leads = go (move_of S scripts (state_of S scripts kept of.history) k) refl
    where
      there : after_move S scripts kept (state_of S scripts kept of.history) (move_of S scripts (state_of S scripts kept of.history) k) ≡ Some t
      there = subst (λ z. step_of S scripts kept z k ≡ Some t) of.same leads

      go : (m : Option Move) → move_of S scripts (state_of S scripts kept of.history) k ≡ m → IsOfPart S scripts kept t
      go None is = let clash : None ≡ Some t = sym (ap (after_move S scripts kept (state_of S scripts kept of.history)) is) ∙ there in absurd cc
      go (Some move) is =
          let next = entry_of_choice S scripts kept of.history fits of.part k move below is in
          let after : Some (state_after S scripts kept (state_of S scripts kept of.history) move) ≡ Some t = sym (ap (after_move S scripts kept (state_of S scripts kept of.history)) is) ∙ there in
          let after' : state_after S scripts kept (state_of S scripts kept of.history) move ≡ t = cc (after) in
          record {
            history = of.history ++ next.0 ∷ [];
            part = next.2;
            same = sym after' ∙ ap (state_after S scripts kept (state_of S scripts kept of.history)) next.3 ∙ sym (state_step S scripts kept of.history next.0 (k / 2) next.1);
          }

  part_of : (s : List ℕ) → Reached (2 * length scripts) (step_of S scripts kept) (state_of S scripts kept []) s → IsOfPart S scripts kept s
  part_of s begins = record { history = []; part = IsPart-none S scripts; same = refl }
  part_of s (goes p t k reached below leads) = one_step p t k (part_of p reached) below leads

  reached_of : (count : ℕ) (H : List Entry) → length H ≡ count → IsPart S scripts H → Reached (2 * length scripts) (step_of S scripts kept) (state_of S scripts kept []) (state_of S scripts kept H)
  reached_of zero [] size part = begins
  reached_of zero (x ∷ H) size part = absurd (omega arith)
  reached_of (suc count) H size part = elim (last_cut H) [
    | inl none ↦ absurd (omega (arith, size, ap length none))
    | inr (G, x, e) ↦
        let part' : IsPart S scripts (G ++ x ∷ []) = subst (IsPart S scripts) e part in
        let shorter : length G ≡ count = omega (arith, size, ap length e, length-append G (x ∷ [])) in
        let before = reached_of count G shorter (IsPart-front S scripts G x part') in
        let choice = choice_of_entry S scripts kept G fits x part' in
        let leads : step_of S scripts kept (state_of S scripts kept G) choice.0 ≡ Some (state_of S scripts kept (G ++ x ∷ [])) =
        ap (after_move S scripts kept (state_of S scripts kept G)) choice.4 ∙ ap Some (sym (state_step S scripts kept G x choice.1 choice.3)) in
        subst (λ K. Reached (2 * length scripts) (step_of S scripts kept) (state_of S scripts kept []) (state_of S scripts kept K)) (sym e)
        (goes (state_of S scripts kept G) (state_of S scripts kept (G ++ x ∷ [])) choice.0 before choice.2 leads)
  ]

pub steps_make_parts : StepsMakeParts
steps_make_parts S scripts kept fits s = (
  part_of S scripts kept fits s,
  λ of. subst (Reached (2 * length scripts) (step_of S scripts kept) (state_of S scripts kept [])) (sym of.same) (reached_of S scripts kept fits (length of.history) of.history refl of.part),
)
