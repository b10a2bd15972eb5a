-- What contracts say of a rule that is pushed onto a table.
use Rattle.std.specs.Prelude.{◌≡◌, ℕ, [], ◌∷◌, ◌++◌, length, Result, Ok, Err}
use Rattle.update_table.specs.declared.table.PushFault.{PushFault}
use Rattle.update_table.specs.declared.table.PushFault.TheVariants.{OtherRange, NoMemory}
use Rattle.update_table.specs.Tables.{TableState}

-- the rule's range is the table's
abbrev pub IsRangeOf : {B : Type 0} → TableState B → ℕ → ℕ → Type 0
IsRangeOf t low high = (low ≡ t.lo) × (high ≡ t.hi)

-- a rule with this range was stored at the end, at the place that is told; or it is given back, for its range where that is
-- another, else for want of memory, and the table stays
abbrev pub Pushes : {B : Type 0} → TableState B → B → ℕ → ℕ → Result ℕ (B × PushFault) → TableState B → Type 0
Pushes t rule low high (Ok n) u = IsRangeOf t low high × (n ≡ length t.rules) × (u ≡ record t { rules = t.rules ++ rule ∷ [] })
Pushes t rule low high (Err (back, OtherRange)) u = (IsRangeOf t low high → ⊥) × (back ≡ rule) × (u ≡ t)
Pushes t rule low high (Err (back, NoMemory)) u = IsRangeOf t low high × (back ≡ rule) × (u ≡ t)
