-- What contracts see of a table.
use Rattle.std.specs.Prelude.{◌≡◌, ℕ, List, Some, slice_get}

-- its range, and its rules in the order of their places
pub record TableState (B : Type 0) : Type 0 where
  pub lo : ℕ
  pub hi : ℕ
  pub rules : List B

-- a rule with this range, of which holds what its maker promised, is one of the range from lo to hi
pub record IsRuleOf (lo hi low high : ℕ) (is_rule : Type 0) : Type 0 where
  pub low_is : low ≡ lo
  pub high_is : high ≡ hi
  pub rule : is_rule

-- each rule of the table is one of its range
abbrev pub AreRules : {B : Type 0} → (B → ℕ) → (B → ℕ) → (B → Type 0) → TableState B → Type 0
AreRules {B} low high is_rule t = (i : ℕ) (rule : B) → slice_get t.rules i ≡ Some rule → IsRuleOf t.lo t.hi (low rule) (high rule) (is_rule rule)
