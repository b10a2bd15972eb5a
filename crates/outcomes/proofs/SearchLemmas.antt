-- What the search keeps, step by step: over a total order in which equal states are the same.
use Rattle.std.proofs.Common.{◌≡◌, ◌⊎◌, inl, inr, ℕ, ◌+◌, ◌<◌, Option, Some, Bool, true, false, refl, sym, ap, subst, ◌∙◌, arith}
use Rattle.std.proofs.lemmas.Bool.{cases_eq}
use Rattle.std.specs.declared.cmp.Ordering.{Ordering}
use Rattle.std.specs.BTreeSet.{BTreeSet, contains, IsUnchanged}
use Rattle.outcomes.specs.Keeping.{Has, Keeps, IsNew, LeadsTo, AddsOne, Adds, KeepsAll, IsOver}

pub true_or_false : (b : Bool) → (b ≡ true) ⊎ (b ≡ false)
true_or_false true = inl refl
true_or_false false = inr refl

pub not_both : (b : Bool) → b ≡ true → b ≡ false → ⊥
not_both b holds fails = let differ : true ≡ false = sym holds ∙ fails in cc

below_or_last : (n k : ℕ) → k < n + 1 → (k < n) ⊎ (k ≡ n)
below_or_last n k h = elim (cases_eq k n) [ inl e ↦ inr e | inr ne ↦ let below : k < n = omega arith in inl below ]

module _ {S : Type 0} (cmp : S → S → Ordering) (after : S → ℕ → Option S) (s : S) (done : BTreeSet S) where
  -- ---- the choices so far, and one more

  more_lead : (n : ℕ) (q : S) → LeadsTo n after s q → LeadsTo (n + 1) after s q
  more_lead n q h = record { choice = h.choice; below = omega arith; leads = h.leads }

  new_before : (old mid : BTreeSet S) → ((q : S) → Has cmp old q → Has cmp mid q) → (q : S) → IsNew cmp s done mid q → IsNew cmp s done old q
  new_before old mid stay q new = record {
    other = new.other;
    not_done = new.not_done;
    not_left = elim (true_or_false (contains cmp old q)) [ inl h ↦ absurd (not_both (contains cmp mid q) (stay q h) new.not_left) | inr h ↦ h ];
  }

  pub Adds-none : (left : BTreeSet S) → Adds cmp after 0 s done left left
  Adds-none left = record { stay = λ q has. has; come = λ q has. inl has }

  pub Adds-more : (n : ℕ) (old mid new : BTreeSet S) → Adds cmp after n s done old mid → AddsOne cmp after n s done mid new → Adds cmp after (n + 1) s done old new
  Adds-more n old mid new adds one = record {
    stay = λ q has. one.stay q (adds.stay q has);
    come = λ q has. elim (one.come q has) [
      | inl was ↦ elim (adds.come q was) [ inl h ↦ inl h | inr (new, leads) ↦ inr (new, more_lead n q leads) ]
      | inr (fresh, leads) ↦ inr (new_before old mid adds.stay q fresh, record { choice = n; below = omega arith; leads = leads })
    ];
  }

  keeps_more : (old new : BTreeSet S) → ((q : S) → Has cmp old q → Has cmp new q) → (q : S) → Keeps cmp s done old q → Keeps cmp s done new q
  keeps_more old new stay q (inl h) = inl h
  keeps_more old new stay q (inr (inl h)) = inr (inl h)
  keeps_more old new stay q (inr (inr h)) = inr (inr (stay q h))

  pub KeepsAll-none : (left : BTreeSet S) → KeepsAll cmp after 0 s done left
  KeepsAll-none left q h = absurd (omega (arith, h.below))

  pub KeepsAll-more : (n : ℕ) (mid new : BTreeSet S) → KeepsAll cmp after n s done mid → AddsOne cmp after n s done mid new → KeepsAll cmp after (n + 1) s done new
  KeepsAll-more n mid new all one q h = elim (below_or_last n h.choice h.below) [
    | inl below ↦ keeps_more mid new one.stay q (all q (record { choice = h.choice; below = below; leads = h.leads }))
    | inr last ↦ one.kept q (subst (λ (k : ℕ). after s k ≡ Some q) last h.leads)
  ]

  -- a choice that came to no answer left all as it was
  pub Adds-stopped : (n m : ℕ) (old mid new : BTreeSet S) → n < m → Adds cmp after n s done old mid → IsUnchanged mid new → Adds cmp after m s done old new
  Adds-stopped n m old mid new below adds same =
      let one : mid ≡ new = ap (λ ks. record { keys = ks }) (sym same) in
      subst (λ x. Adds cmp after m s done old x) one (record {
        stay = adds.stay;
        come = λ q has. elim (adds.come q has) [ inl h ↦ inl h | inr (fresh, leads) ↦ inr (fresh, record { choice = leads.choice; below = omega arith; leads = leads.leads }) ];
      })

  pub IsOver-stopped : (k limit : ℕ) (mid new : BTreeSet S) → IsUnchanged mid new → IsOver cmp after k s done mid limit → IsOver cmp after k s done new limit
  IsOver-stopped k limit mid new same over = let one : mid ≡ new = ap (λ ks. record { keys = ks }) (sym same) in subst (λ x. IsOver cmp after k s done x limit) one over
