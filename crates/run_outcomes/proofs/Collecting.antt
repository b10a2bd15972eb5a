-- Outcomes, state by state.
use Rattle.std.proofs.Common.{◌≡◌, ◌⊎◌, inl, inr, ℕ, ◌<◌, true, false, cond, List, [], ◌∷◌, length, map, refl, sym, ap, subst, ◌∙◌, arith}
use Rattle.std.specs.List.{list_any}
use Rattle.std.specs.Ordering.{is_eq, nat_cmp}
use Rattle.std.specs.Cmp.Lexicographic.{slice_cmp}
use Rattle.std.specs.declared.cmp.Ordering.{Ordering}
use Rattle.std.specs.declared.cmp.Ordering.TheVariants.{Less, Equal, Greater}
use Rattle.std.specs.BTreeMap.{is_at}
use Rattle.std.specs.BTreeSet.{BTreeSet, btree_set_len, contains, Updates, IsEmpty}
use Rattle.std.proofs.lemmas.Map.Lookups.{exact_bytes}
use Rattle.std.proofs.lemmas.List.FromFn.{length-map-range_with_len}
use Rattle.place_core.specs.declared.script.Line.{Line}
use Rattle.place_core.specs.declared.shape.Shape.{Shape}
use Rattle.place_core.specs.declared.script.Piece.{Piece}
use Rattle.place_core.specs.Pieces.{script_lines}
use Rattle.run_steps.specs.Laws.{IsOfPart}
use Rattle.run_steps.specs.Standing.{cell_of, cell_count}
use Rattle.run_steps.proofs.Lists.{true_or_false}
use Rattle.run_machine.specs.States.{HasEveryState}
use Rattle.run_outcomes.specs.Outcomes.{longest, HasEveryOutcome, IsOutcome, EndsAll, outcome_at}
use Rattle.run_outcomes.specs.Collecting.{Has, AddsOutcome, IsCollecting}
use Rattle.run_outcomes.proofs.Ending.{outcome_has_state, state_has_outcome}

at_equal : (o : Ordering) → is_eq o ≡ true → o ≡ Equal
at_equal Less e = cc
at_equal Equal e = refl
at_equal Greater e = cc

same_at : (x q : List ℕ) → is_at (slice_cmp nat_cmp x) q ≡ true → x ≡ q
same_at x q e = exact_bytes x q (at_equal (slice_cmp nat_cmp x q) e)

-- a set to which x was added has x, and what it had before, and no other
has_more : (old new : BTreeSet (List ℕ)) (x q : List ℕ) → Updates (slice_cmp nat_cmp) old new x true → Has new q → (x ≡ q) ⊎ Has old q
has_more old new x q updates has = elim (true_or_false (is_at (slice_cmp nat_cmp x) q)) [ inl e ↦ inl (same_at x q e) | inr e ↦ inr (sym (updates.2 q e) ∙ has) ]

has_old : (old new : BTreeSet (List ℕ)) (x q : List ℕ) → Updates (slice_cmp nat_cmp) old new x true → Has old q → Has new q
has_old old new x q updates has = elim (true_or_false (is_at (slice_cmp nat_cmp x) q)) [
  | inl e ↦ updates.0 q ∙ ap (λ b. cond b true (contains (slice_cmp nat_cmp) old q)) e
  | inr e ↦ updates.2 q e ∙ has
]

-- a set from which x was taken has what it had before, and not x
has_less : (old new : BTreeSet (List ℕ)) (x q : List ℕ) → Updates (slice_cmp nat_cmp) old new x false → Has old q → (x ≡ q) ⊎ Has new q
has_less old new x q updates has = elim (true_or_false (is_at (slice_cmp nat_cmp x) q)) [ inl e ↦ inl (same_at x q e) | inr e ↦ inr (updates.2 q e ∙ has) ]

had : (old new : BTreeSet (List ℕ)) (x q : List ℕ) → Updates (slice_cmp nat_cmp) old new x false → Has new q → Has old q
had old new x q updates has = elim (true_or_false (is_at (slice_cmp nat_cmp x) q)) [
  | inl e ↦ let clash : false ≡ true = sym (updates.0 q ∙ ap (λ b. cond b false (contains (slice_cmp nat_cmp) old q)) e) ∙ has in absurd cc
  | inr e ↦ sym (updates.2 q e) ∙ has
]

has_none : (set : BTreeSet (List ℕ)) → IsEmpty set → (q : List ℕ) → Has set q → ⊥
has_none set none q has = let clash : false ≡ true = subst (λ ks. list_any (is_at (slice_cmp nat_cmp q)) ks ≡ true) none has in cc

module _ (S : Shape) (scripts : List (List Line)) where
  -- nothing is added
  pub AddsOutcome-none : (s : List ℕ) (found : BTreeSet (List ℕ)) → (EndsAll scripts s → ⊥) → AddsOutcome S scripts s found found
  AddsOutcome-none s found not_all = record { stay = λ q has. has; come = λ q has. inl has; kept = λ all. absurd (not_all all) }

  pub AddsOutcome-one : (s q : List ℕ) (old new : BTreeSet (List ℕ)) → EndsAll scripts s → q ≡ outcome_at S scripts s → Updates (slice_cmp nat_cmp) old new q true → AddsOutcome S scripts s old new
  AddsOutcome-one s q old new all is updates = record {
    stay = λ p has. has_old old new q p updates has;
    come = λ p has. elim (has_more old new q p updates has) [ inl e ↦ inr (all, sym e ∙ is) | inr was ↦ inl was ];
    kept = λ h. subst (Has new) is updates.1;
  }

  pub IsCollecting-begins : (limit : ℕ) (states found : BTreeSet (List ℕ)) → HasEveryState S scripts (longest scripts) limit states → IsEmpty found → IsCollecting S scripts states found
  IsCollecting-begins limit states found every none = record {
    states = λ s has. (every.exact s).0 has;
    known = λ q has. absurd (has_none found none q has);
    each = λ s of all. inl ((every.exact s).1 of);
  }

  pub IsCollecting-more : (left rest found new : BTreeSet (List ℕ)) (s : List ℕ) → IsCollecting S scripts left found → Has left s → Updates (slice_cmp nat_cmp) left rest s false → AddsOutcome S scripts s found new → IsCollecting S scripts rest new
  IsCollecting-more left rest found new s collecting member taken adds = record {
    states = λ t has. collecting.states t (had left rest s t taken has);
    known = λ q has. elim (adds.come q has) [
      | inl was ↦ collecting.known q was
      | inr (all, is) ↦ subst (IsOutcome S scripts) (sym is) (state_has_outcome S scripts s (collecting.states s member) all)
    ];
    each = λ t of all. elim (collecting.each t of all) [
      | inl here ↦ elim (has_less left rest s t taken here) [
        | inl e ↦ inr (subst (λ z. Has new (outcome_at S scripts z)) e (adds.kept (subst (EndsAll scripts) (sym e) all)))
        | inr still ↦ inl still
      ]
      | inr was ↦ inr (adds.stay (outcome_at S scripts t) was)
    ];
  }

  pub HasEveryOutcome-ends : (left found : BTreeSet (List ℕ)) → IsCollecting S scripts left found → IsEmpty left → HasEveryOutcome S scripts found
  HasEveryOutcome-ends left found collecting none q = (
    collecting.known q,
    λ out.
        let there = outcome_has_state S scripts q out in
        elim (collecting.each there.0 there.1 there.2) [
          | inl here ↦ absurd (has_none left none there.0 here)
          | inr has ↦ subst (Has found) (sym there.3) has
        ],
  )

-- a set has no key where it has not one at least
pub empty_where_none : (set : BTreeSet (List ℕ)) → (0 < btree_set_len set → false ≡ true) → IsEmpty set
empty_where_none set none = no_key set.keys none
  where
    no_key : {S : Type 0} (ks : List S) → (0 < length ks → false ≡ true) → ks ≡ []
    no_key [] h = refl
    no_key (k ∷ ks) h = let clash : false ≡ true = h (omega arith) in absurd cc

-- what was found for the machine of the scripts was found for the scripts
pub moved : (Z S : Shape) (rest scripts : List (List Piece)) (kept most limit : ℕ) (found : BTreeSet (List ℕ)) → Z ≡ S → rest ≡ scripts → kept ≡ most
    → HasEveryState Z (map script_lines rest) kept limit found → HasEveryState S (map script_lines scripts) most limit found
moved Z S rest scripts kept most limit found e f g every =
    let P : Type 0 → Type 0 = λ A. A in
    subst P (λ i. HasEveryState (e i) (map script_lines (f i)) (g i) limit found) every

pub length_there : (S : Shape) (scripts : List (List Line)) (kept : ℕ) (s : List ℕ) → IsOfPart S scripts kept s → length s ≡ cell_count S scripts kept
length_there S scripts kept s of = ap (λ (l : List ℕ). length l) of.same ∙ length-map-range_with_len (cell_of S scripts of.history) 0 (cell_count S scripts kept)
