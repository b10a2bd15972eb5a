-- Changes of a number that others made, over histories of entries of any type.
use Rattle.std.specs.Prelude.{ℕ, ◌+◌, ◌==◌, if◌then◌else◌, List, [], ◌∷◌, ◌++◌}

-- 1 where the entry, after these, is of another caller than c and changes the number
abbrev pub change_by_other : {E : Type 0} → (E → ℕ) → (List E → ℕ) → ℕ → List E → E → ℕ
change_by_other caller number c before x = if caller x == c then 0 else (if number (before ++ x ∷ []) == number before then 0 else 1)

-- how many entries, which come after these, are of other callers than c and change the number
unfoldable pub changes_from : {E : Type 0} → (E → ℕ) → (List E → ℕ) → ℕ → List E → List E → ℕ
changes_from caller number c before [] = 0
changes_from caller number c before (x ∷ xs) = change_by_other caller number c before x + changes_from caller number c (before ++ x ∷ []) xs
