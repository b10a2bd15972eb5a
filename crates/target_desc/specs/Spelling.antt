-- The words that say a target, without a reader: a name, or the words of a description.
use Rattle.std.specs.Prelude.{◌≡◌, ◌⊎◌, ℕ, List, [], ◌∷◌}
use Rattle.target_desc.specs.declared.target.Target.{Target}
use Rattle.target_desc.specs.Target.{IsTarget, IsOfVersion, builtins}
use Rattle.target_desc.specs.Text.{description_words}

-- a word and what it stands for are a row of the table
abbrev pub HasRow : {A : Type 0} → List (List ℕ × A) → List ℕ → A → Type 0
HasRow [] w x = ⊥
HasRow (row ∷ rows) w x = ((w ≡ row.0) × (x ≡ row.1)) ⊎ HasRow rows w x

-- a name of the table, and its target
abbrev pub IsName : List ℕ → Target → Type 0
IsName name t = HasRow builtins name t

-- one word is a name, and more are the description, which says `big` only in version 2
abbrev pub IsTargetText : ℕ → List (List ℕ) → Target → Type 0
IsTargetText version words t = ((name : List ℕ) × (words ≡ name ∷ []) × IsName name t) ⊎ (IsTarget t × IsOfVersion version t × (words ≡ description_words t))
