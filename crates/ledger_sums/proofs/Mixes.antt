-- Calls are of one family exactly where what they are together is.
use Rattle.std.proofs.Common.{◌≡◌, ◌⊎◌, inl, inr, ℕ, Bool, true, false, List, [], ◌∷◌, refl, ap, sym, ◌∙◌}
use Rattle.std.specs.Prelude.{◌&&◌, ◌||◌, if◌then◌else◌, Some, None}
use Rattle.std.proofs.Math.Bool.{and_assoc}
use Rattle.op_table.specs.declared.call.Call.{Call}
use Rattle.ledger_sums.specs.declared.families.Family.{Family}
use Rattle.ledger_sums.specs.declared.families.Family.TheVariants.{Sums, Flips, Sets, Clears, Maxima, Minima}
use Rattle.ledger_sums.specs.declared.families.Mix.{Mix}
use Rattle.ledger_sums.specs.declared.families.Mix.TheVariants.{Loads, One, Other}
use Rattle.ledger_sums.specs.Families.{mix_of, is_same, suits, all_suit, are_of_one_family}
use Rattle.ledger_sums.specs.Tallies.{joined, value_in_mix}

-- ---- families are told apart

pub same_families : (f g : Family) → ((is_same f g ≡ true) × (f ≡ g)) ⊎ (is_same f g ≡ false)
same_families Sums Sums = inl (refl, refl)
same_families Flips Flips = inl (refl, refl)
same_families Sets Sets = inl (refl, refl)
same_families Clears Clears = inl (refl, refl)
same_families Maxima Maxima = inl (refl, refl)
same_families Minima Minima = inl (refl, refl)
same_families _ _ = inr refl

same_self : (f : Family) → is_same f f ≡ true
same_self Sums = refl
same_self Flips = refl
same_self Sets = refl
same_self Clears = refl
same_self Maxima = refl
same_self Minima = refl

pub family_from_same : (f g : Family) → is_same f g ≡ true → f ≡ g
family_from_same f g same = elim (same_families f g) [ inl t ↦ t.1 | inr t ↦ absurd (cc (same, t)) ]

-- ---- what two lots of calls are together suits a family exactly where each does

and_twice : (b : Bool) → b ≡ (b && b)
and_twice true = refl
and_twice false = refl

and_false : (b : Bool) → false ≡ (b && false)
and_false true = refl
and_false false = refl

and_true : (b : Bool) → b ≡ (b && true)
and_true true = refl
and_true false = refl

-- where the two are of different families
apart : (f g h : Family) → is_same g h ≡ false → false ≡ (is_same f g && is_same f h)
apart f g h other = elim (same_families f g) [
  | inl t ↦ sym (ap (λ (x : Family). is_same f g && is_same x h) t.1 ∙ ap (λ (b : Bool). is_same f g && b) other ∙ sym (and_false (is_same f g)))
  | inr t ↦ sym (ap (λ (b : Bool). b && is_same f h) t)
]

suits-chosen : (f g h : Family) (b : Bool) → is_same g h ≡ b → suits f (if b then One g else Other) ≡ (is_same f g && is_same f h)
suits-chosen f g h true same = and_twice (is_same f g) ∙ ap (λ (x : Family). is_same f g && is_same f x) (family_from_same g h same)
suits-chosen f g h false other = apart f g h other

suits-joined : (f : Family) (a b : Mix) → suits f (joined a b) ≡ (suits f a && suits f b)
suits-joined f Loads b = refl
suits-joined f (One g) Loads = and_true (is_same f g)
suits-joined f (One g) (One h) = suits-chosen f g h (is_same g h) refl
suits-joined f (One g) Other = and_false (is_same f g)
suits-joined f Other b = refl

-- what calls are together with others before them
abbrev pub mix_after : Mix → List Call → Mix
mix_after mix [] = mix
mix_after mix (call ∷ calls) = mix_after (joined mix (mix_of call)) calls

pub suits-mix_after : (f : Family) (mix : Mix) (calls : List Call) → suits f (mix_after mix calls) ≡ (suits f mix && all_suit f calls)
suits-mix_after f mix [] = and_true (suits f mix)
suits-mix_after f mix (call ∷ calls) =
    suits-mix_after f (joined mix (mix_of call)) calls
    ∙ ap (λ (b : Bool). b && all_suit f calls) (suits-joined f mix (mix_of call))
    ∙ and_assoc (suits f mix) (suits f (mix_of call)) (all_suit f calls)

-- ---- the value that is told

abbrev pub suits_some : Mix → Bool
suits_some mix = suits Sums mix || (suits Flips mix || (suits Sets mix || (suits Clears mix || (suits Maxima mix || suits Minima mix))))

told_in_family : (f : Family) (v : ℕ) → Some v ≡ (if suits_some (One f) then Some v else None)
told_in_family Sums v = refl
told_in_family Flips v = refl
told_in_family Sets v = refl
told_in_family Clears v = refl
told_in_family Maxima v = refl
told_in_family Minima v = refl

told : (mix : Mix) (v : ℕ) → value_in_mix mix v ≡ (if suits_some mix then Some v else None)
told Loads v = refl
told (One f) v = told_in_family f v
told Other v = refl

pub suits_some-all : (calls : List Call) → suits_some (mix_after Loads calls) ≡ are_of_one_family calls
suits_some-all calls i =
    suits-mix_after Sums Loads calls i || (suits-mix_after Flips Loads calls i || (suits-mix_after Sets Loads calls i || (suits-mix_after Clears Loads calls i || (suits-mix_after Maxima Loads calls i || suits-mix_after Minima Loads calls i))))

-- the value of a tally that began with no call
pub told_of_calls : (calls : List Call) (v : ℕ) → value_in_mix (mix_after Loads calls) v ≡ (if are_of_one_family calls then Some v else None)
told_of_calls calls v = told (mix_after Loads calls) v ∙ ap (λ (b : Bool). if b then Some v else None) (suits_some-all calls)
