-- What the search keeps: states whose choices were all tried, states whose choices are still to be tried, and the one state
-- whose choices are being tried.
use Rattle.std.specs.Prelude.{◌≡◌, ◌≢◌, ◌⊎◌, ℕ, ◌+◌, ◌<◌, ◌≤◌, Option, Some, true, false}
use Rattle.std.specs.declared.cmp.Ordering.{Ordering}
use Rattle.std.specs.BTreeSet.{BTreeSet, btree_set_len, contains, IsOrdered}
use Rattle.outcomes.specs.Reached.{Reached}

-- the set has the state
abbrev pub Has : {S : Type 0} → (S → S → Ordering) → BTreeSet S → S → Type 0
Has cmp set q = contains cmp set q ≡ true

-- the state is s, or is in either set
abbrev pub Keeps : {S : Type 0} → (S → S → Ordering) → S → BTreeSet S → BTreeSet S → S → Type 0
Keeps cmp s done left q = (s ≡ q) ⊎ (Has cmp done q ⊎ Has cmp left q)

-- the state is not s, and in neither set
pub record IsNew {S : Type 0} (cmp : S → S → Ordering) (s : S) (done left : BTreeSet S) (q : S) : Type 0 where
  pub other : s ≢ q
  pub not_done : contains cmp done q ≡ false
  pub not_left : contains cmp left q ≡ false

-- one of the first n choices leads from s to the state
pub record LeadsTo {S : Type 0} (n : ℕ) (after : S → ℕ → Option S) (s q : S) : Type 0 where
  pub choice : ℕ
  pub below : choice < n
  pub leads : after s choice ≡ Some q

-- the state that a choice from s leads to was added, where it was new, and no other
pub record AddsOne {S : Type 0} (cmp : S → S → Ordering) (after : S → ℕ → Option S) (choice : ℕ) (s : S) (done old new : BTreeSet S) : Type 0 where
  pub stay : (q : S) → Has cmp old q → Has cmp new q
  pub come : (q : S) → Has cmp new q → Has cmp old q ⊎ (IsNew cmp s done old q × (after s choice ≡ Some q))
  pub kept : (q : S) → after s choice ≡ Some q → Keeps cmp s done new q

-- of the states that the first n choices from s lead to, some that were new were added, and no other
pub record Adds {S : Type 0} (cmp : S → S → Ordering) (after : S → ℕ → Option S) (n : ℕ) (s : S) (done old new : BTreeSet S) : Type 0 where
  pub stay : (q : S) → Has cmp old q → Has cmp new q
  pub come : (q : S) → Has cmp new q → Has cmp old q ⊎ (IsNew cmp s done old q × LeadsTo n after s q)

-- each state that one of the first n choices from s leads to is kept
abbrev pub KeepsAll : {S : Type 0} → (S → S → Ordering) → (S → ℕ → Option S) → ℕ → S → BTreeSet S → BTreeSet S → Type 0
KeepsAll {S} cmp after n s done left = (q : S) → LeadsTo n after s q → Keeps cmp s done left q

-- the choice leads from s to a new state, and as many are kept as the limit allows
pub record IsOver {S : Type 0} (cmp : S → S → Ordering) (after : S → ℕ → Option S) (choice : ℕ) (s : S) (done left : BTreeSet S) (limit : ℕ) : Type 0 where
  pub state : S
  pub leads : after s choice ≡ Some state
  pub new : IsNew cmp s done left state
  pub done_ordered : IsOrdered cmp done
  pub left_ordered : IsOrdered cmp left
  pub full : limit ≡ btree_set_len done + btree_set_len left + 1

-- so does one of the first n choices
abbrev pub IsOverAt : {S : Type 0} → (S → S → Ordering) → (S → ℕ → Option S) → ℕ → S → BTreeSet S → BTreeSet S → ℕ → Type 0
IsOverAt cmp after n s done left limit = (k : ℕ) × (k < n) × IsOver cmp after k s done left limit

-- what is kept from one state to the next
pub record IsSearching {S : Type 0} (cmp : S → S → Ordering) (choices : ℕ) (after : S → ℕ → Option S) (start : S) (limit : ℕ) (done left : BTreeSet S) : Type 0 where
  pub reached : (q : S) → Has cmp done q ⊎ Has cmp left q → Reached choices after start q
  pub begun : Has cmp done start ⊎ Has cmp left start
  pub closed : (s q : S) → Has cmp done s → LeadsTo choices after s q → Has cmp done q ⊎ Has cmp left q
  pub apart : (q : S) → Has cmp done q → contains cmp left q ≡ false
  pub within : btree_set_len done + btree_set_len left ≤ limit
