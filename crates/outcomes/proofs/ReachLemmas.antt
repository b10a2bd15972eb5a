-- What the search keeps, from one state to the next: over a total order in which equal states are the same.
use Rattle.std.proofs.Common.{◌≡◌, ◌⊎◌, inl, inr, ℕ, ◌+◌, ◌<◌, ◌≤◌, Option, IfSome, Bool, true, false, cond, List, [], ◌∷◌, ◌++◌, length, refl, sym, ap, subst, ◌∙◌, arith, length-append}
use Rattle.std.specs.List.{list_any, IsDistinct}
use Rattle.std.specs.Ordering.{is_eq}
use Rattle.std.specs.declared.cmp.Ordering.{Ordering}
use Rattle.std.specs.declared.cmp.Ordering.TheVariants.{Less, Equal, Greater}
use Rattle.std.specs.Cmp.{IsTotalOrder}
use Rattle.std.specs.BTreeMap.{is_at}
use Rattle.std.specs.BTreeSet.{BTreeSet, btree_set_len, contains, Updates, IsEmpty}
use Rattle.outcomes.specs.Reached.{Reached, begins, goes, HasReached, ReachesMore}
use Rattle.outcomes.specs.Keeping.{Has, Keeps, LeadsTo, Adds, KeepsAll, IsOverAt, IsSearching}
use Rattle.outcomes.proofs.SearchLemmas.{true_or_false, not_both}
use Rattle.outcomes.proofs.CountLemmas.{AllByRecursion-append, all_from_has, distinct_in_all}

at_equal : (o : Ordering) → is_eq o ≡ true → o ≡ Equal
at_equal Less e = cc
at_equal Equal e = refl
at_equal Greater e = cc

-- a key that was added makes one more at most
pub one_more : (b : Bool) (n m : ℕ) → n ≡ m + cond b 1 0 → n ≤ m + 1
one_more true n m e = omega arith
one_more false n m e = omega arith

-- a set has no key where it has not one at least
pub empty_where_none : {S : Type 0} (set : BTreeSet S) → (0 < btree_set_len set → false ≡ true) → IsEmpty set
empty_where_none set none = no_key set.keys none
  where
    no_key : {S : Type 0} (ks : List S) → (0 < length ks → false ≡ true) → ks ≡ []
    no_key [] h = refl
    no_key (k ∷ ks) h = let clash : false ≡ true = h (omega arith) in absurd cc

module _ {S : Type 0} (choices : ℕ) (after : S → ℕ → Option S) (start : S) where
  -- what the start has, and each choice keeps, each state has that can be reached
  pub Reached-keeps : (P : S → Type 0) → P start → ((s : S) (k : ℕ) → P s → k < choices → IfSome (after s k) P) → (q : S) → Reached choices after start q → P q
  Reached-keeps P first keep q begins = first
  Reached-keeps P first keep q (goes s t k reached below leads) = subst (λ o. IfSome o P) leads (keep s k (Reached-keeps P first keep s reached) below)

  -- the start alone, where none may be reached
  pub ReachesMore-none : (cmp : S → S → Ordering) (limit : ℕ) → limit ≡ 0 → ReachesMore cmp choices after start limit
  unfolding IsDistinct
  ReachesMore-none cmp limit none = record {
    states = start ∷ [];
    count = omega arith;
    differ = (tt, tt);
    reached = (begins, tt);
  }

  module _ (cmp : S → S → Ordering) (order : IsTotalOrder cmp) (same : (x y : S) → cmp x y ≡ Equal → x ≡ y) where
    has_none : (set : BTreeSet S) → IsEmpty set → (q : S) → Has cmp set q → ⊥
    has_none set none q has = let clash : false ≡ true = subst (λ ks. list_any (is_at (cmp q)) ks ≡ true) none has in cc

    -- a set to which x was added has x, and what it had before, and no other
    has_more : (old new : BTreeSet S) (x q : S) → Updates cmp old new x true → Has cmp new q → (x ≡ q) ⊎ Has cmp old q
    has_more old new x q updates has = elim (true_or_false (is_at (cmp x) q)) [
      | inl e ↦ inl (same x q (at_equal (cmp x q) e))
      | inr e ↦ inr (sym (updates.2 q e) ∙ has)
    ]

    has_old : (old new : BTreeSet S) (x q : S) → Updates cmp old new x true → Has cmp old q → Has cmp new q
    has_old old new x q updates has = elim (true_or_false (is_at (cmp x) q)) [
      | inl e ↦ updates.0 q ∙ ap (λ b. cond b true (contains cmp old q)) e
      | inr e ↦ updates.2 q e ∙ has
    ]

    -- a set from which x was taken has what it had before, and not x
    has_less : (old new : BTreeSet S) (x q : S) → Updates cmp old new x false → Has cmp old q → (x ≡ q) ⊎ Has cmp new q
    has_less old new x q updates has = elim (true_or_false (is_at (cmp x) q)) [
      | inl e ↦ inl (same x q (at_equal (cmp x q) e))
      | inr e ↦ inr (updates.2 q e ∙ has)
    ]

    had : (old new : BTreeSet S) (x q : S) → Updates cmp old new x false → Has cmp new q → Has cmp old q
    had old new x q updates has = elim (true_or_false (is_at (cmp x) q)) [
      | inl e ↦ let clash : false ≡ true = sym (updates.0 q ∙ ap (λ b. cond b false (contains cmp old q)) e) ∙ has in absurd cc
      | inr e ↦ sym (updates.2 q e) ∙ has
    ]

    pub IsSearching-begins : (limit : ℕ) (done none left : BTreeSet S) → IsEmpty done → IsEmpty none → Updates cmp none left start true → btree_set_len left ≤ btree_set_len none + 1 → 1 ≤ limit
        → IsSearching cmp choices after start limit done left
    IsSearching-begins limit done none left empty empty' updates one room = record {
      reached = λ q h. elim h [
        | inl has ↦ absurd (has_none done empty q has)
        | inr has ↦ elim (has_more none left start q updates has) [
          | inl e ↦ subst (λ x. Reached choices after start x) e begins
          | inr was ↦ absurd (has_none none empty' q was)
        ]
      ];
      begun = inr updates.1;
      closed = λ s q has leads. absurd (has_none done empty s has);
      apart = λ q has. absurd (has_none done empty q has);
      within = let a : length done.keys ≡ 0 = ap length empty in let b : length none.keys ≡ 0 = ap length empty' in omega arith;
    }

    module _ (limit : ℕ) (done left rest new done' : BTreeSet S) (s : S) (searching : IsSearching cmp choices after start limit done left) (member : Has cmp left s) (taken : Updates cmp left rest s false)
        (adds : Adds cmp after choices s done rest new) where
      own_reached : Reached choices after start s
      own_reached = searching.reached s (inr member)

      new_reached : (q : S) → Has cmp new q → Reached choices after start q
      new_reached q has = elim (adds.come q has) [
        | inl was ↦ searching.reached q (inr (had left rest s q taken was))
        | inr (fresh, leads) ↦ goes s q leads.choice own_reached leads.below leads.leads
      ]

      -- the state that was taken is in neither set, and they share none
      pub own_not_done : contains cmp done s ≡ false
      own_not_done = elim (true_or_false (contains cmp done s)) [ inl h ↦ absurd (not_both (contains cmp left s) member (searching.apart s h)) | inr h ↦ h ]

      pub own_not_new : contains cmp new s ≡ false
      own_not_new = elim (true_or_false (contains cmp new s)) [
        | inl h ↦ elim (adds.come s h) [
          | inl was ↦ absurd (not_both (contains cmp rest s) was taken.1)
          | inr (fresh, leads) ↦ absurd (fresh.other refl)
        ]
        | inr h ↦ h
      ]

      pub still_apart : (q : S) → Has cmp done q → contains cmp new q ≡ false
      still_apart q has = elim (true_or_false (contains cmp new q)) [
        | inl h ↦ elim (adds.come q h) [
          | inl was ↦ absurd (not_both (contains cmp left q) (had left rest s q taken was) (searching.apart q has))
          | inr (fresh, leads) ↦ absurd (not_both (contains cmp done q) has fresh.not_done)
        ]
        | inr h ↦ h
      ]

      pub ReachesMore-over : IsOverAt cmp after choices s done new limit → ReachesMore cmp choices after start limit
      ReachesMore-over (k, below, over) = record {
        states = over.state ∷ s ∷ (done.keys ++ new.keys);
        count = let sizes : length (done.keys ++ new.keys) ≡ length done.keys + length new.keys = length-append done.keys new.keys in omega (arith, over.full);
        differ = distinct_in_all cmp order over.state s done new over.done_ordered over.left_ordered still_apart
            (λ e. over.new.other (sym (same over.state s e))) over.new.not_done over.new.not_left own_not_done own_not_new;
        reached = (
          goes s over.state k own_reached below over.leads,
          (
            own_reached,
            AllByRecursion-append (Reached choices after start) done.keys new.keys
                (all_from_has cmp order (Reached choices after start) done.keys (λ q has. searching.reached q (inl has)))
                (all_from_has cmp order (Reached choices after start) new.keys new_reached),
          ),
        );
      }

      module _ (all : KeepsAll cmp after choices s done new) (put : Updates cmp done done' s true) where
        now_kept : (q : S) → Keeps cmp s done new q → Has cmp done' q ⊎ Has cmp new q
        now_kept q (inl e) = inl (subst (λ x. Has cmp done' x) e put.1)
        now_kept q (inr (inl has)) = inl (has_old done done' s q put has)
        now_kept q (inr (inr has)) = inr has

        still_kept : (q : S) → Has cmp done q ⊎ Has cmp left q → Has cmp done' q ⊎ Has cmp new q
        still_kept q (inl has) = now_kept q (inr (inl has))
        still_kept q (inr has) = elim (has_less left rest s q taken has) [
          | inl e ↦ now_kept q (inl e)
          | inr was ↦ now_kept q (inr (inr (adds.stay q was)))
        ]

        pub IsSearching-more : btree_set_len done' ≤ btree_set_len done + 1 → btree_set_len done + btree_set_len new + 1 ≤ limit → IsSearching cmp choices after start limit done' new
        IsSearching-more one room = record {
          reached = λ q h. elim h [
            | inl has ↦ elim (has_more done done' s q put has) [ inl e ↦ subst (λ x. Reached choices after start x) e own_reached | inr was ↦ searching.reached q (inl was) ]
            | inr has ↦ new_reached q has
          ];
          begun = still_kept start searching.begun;
          closed = λ p q has leads. elim (has_more done done' s p put has) [
            | inl e ↦ now_kept q (all q (subst (λ x. LeadsTo choices after x q) (sym e) leads))
            | inr was ↦ still_kept q (searching.closed p q was leads)
          ];
          apart = λ q has. elim (has_more done done' s q put has) [
            | inl e ↦ subst (λ x. contains cmp new x ≡ false) e own_not_new
            | inr was ↦ still_apart q was
          ];
          within = omega arith;
        }

    module _ (limit : ℕ) (done left : BTreeSet S) (searching : IsSearching cmp choices after start limit done left) (none : IsEmpty left) where
      only_done : (q : S) → Has cmp done q ⊎ Has cmp left q → Has cmp done q
      only_done q (inl has) = has
      only_done q (inr has) = absurd (has_none left none q has)

      done_has : (q : S) → Reached choices after start q → Has cmp done q
      done_has q begins = only_done start searching.begun
      done_has q (goes s t k reached below leads) = only_done t (searching.closed s t (done_has s reached) (record { choice = k; below = below; leads = leads }))

      pub HasReached-ends : HasReached cmp choices after start limit done
      HasReached-ends = record {
        exact = λ q. (λ has. searching.reached q (inl has), done_has q);
        within = let sizes : btree_set_len done + btree_set_len left ≤ limit = searching.within in omega arith;
      }
