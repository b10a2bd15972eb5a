-- A closure's answers as a rule of numbers.
use Rattle.std.proofs.Common.{◌≡◌, ℕ, ◌-◌, ◌<◌, ◌≤◌, Option, Some, None, refl, sym, ◌∙◌, ap, subst, arith}
use Rattle.update_table.specs.Rules.{InRange}
use Rattle.update_table.specs.Updates.{IsLed}
use Rattle.update_table.specs.Values.{always, answers_as}

module _ {V : Type 0} (of_bits : ℕ → V) (bits : V → ℕ) (gives : V → Option V → Type 0) (values : ℕ) where
  in_range : (v : V) (r : ℕ) → r ≡ bits v → r < values → InRange 0 (values - 1) (bits v)
  in_range v r is fits = (omega arith, omega (arith, is, fits))

  at_value : (v : V) (r : ℕ) (answer : Option V) → r ≡ bits v → of_bits r ≡ v → gives v answer → gives (of_bits (bits v)) answer
  at_value v r answer is back told = subst (λ (w : V). gives w answer) (sym back ∙ ap of_bits is) told

  pub led_by : (v n : V) (r k : ℕ) → r ≡ bits v → r < values → of_bits r ≡ v → k ≡ bits n → k < values → gives v (Some n) → IsLed 0 (values - 1) (answers_as of_bits bits gives) (bits v) (bits n)
  led_by v n r k is fits back n_is n_fits told = record { from = in_range v r is fits; to = in_range n k n_is n_fits; leads = (Some n, at_value v r (Some n) is back told, refl) }

  pub refused_by : (v : V) (r : ℕ) → r ≡ bits v → r < values → of_bits r ≡ v → gives v None → InRange 0 (values - 1) (bits v) × answers_as of_bits bits gives (bits v) None
  refused_by v r is fits back told = (in_range v r is fits, (None, at_value v r None is back told, refl))
