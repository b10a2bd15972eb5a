-- What the search of a machine finds.
use Rattle.std.proofs.Common.{◌≡◌, ℕ, ◌*◌, List, [], length, map, Result, Ok, Err, IfOk, sym, subst}
use Rattle.std.specs.Ordering.{nat_cmp}
use Rattle.std.specs.Cmp.Lexicographic.{slice_cmp}
use Rattle.std.specs.BTreeSet.{BTreeSet}
use Rattle.place_core.specs.declared.script.Piece.{Piece}
use Rattle.place_core.specs.declared.shape.Shape.{Shape}
use Rattle.place_core.specs.Pieces.{script_lines}
use Rattle.place_core.specs.Runs.{ScriptsFit}
use Rattle.place_core.specs.Shapes.{cells_of_shape}
use Rattle.outcomes.specs.Reached.{Reached, HasReached}
use Rattle.run_steps.specs.Standing.{state_of}
use Rattle.run_steps.specs.Steps.{step_of}
use Rattle.run_steps.proofs.Lists.{length-map'}
use Rattle.run_steps.proofs.Reaching.{steps_make_parts}
use Rattle.run_machine.specs.States.{HasEveryState}

pub HasEveryState-found : (S : Shape) (scripts : List (List Piece)) (kept limit : ℕ) (start : List ℕ) → ScriptsFit (cells_of_shape S) (map script_lines scripts) → start ≡ state_of S (map script_lines scripts) kept []
    → (found : BTreeSet (List ℕ)) → HasReached (slice_cmp nat_cmp) (2 * length scripts) (step_of S (map script_lines scripts) kept) start limit found → HasEveryState S (map script_lines scripts) kept limit found
HasEveryState-found S scripts kept limit start fits is found reached = record {
  exact = λ s.
      let law = steps_make_parts S (map script_lines scripts) kept fits s in
      let there : Reached (2 * length scripts) (step_of S (map script_lines scripts) kept) start s ≡ Reached (2 * length (map script_lines scripts)) (step_of S (map script_lines scripts) kept) (state_of S (map script_lines scripts) kept []) s =
      λ i. Reached (2 * sym (length-map' script_lines scripts) i) (step_of S (map script_lines scripts) kept) (is i) s in
      let P : Type 0 → Type 0 = λ A. A in
      (λ has. law.0 (subst P there ((reached.exact s).0 has)), λ of. (reached.exact s).1 (subst P (sym there) (law.1 of)));
  within = reached.within;
}

pub IfOk-weaken : {T E : Type 0} (P Q : T → Type 0) (r : Result T E) → ((x : T) → P x → Q x) → IfOk r P → IfOk r Q
IfOk-weaken P Q (Ok x) f h = f x h
IfOk-weaken P Q (Err e) f h = tt
