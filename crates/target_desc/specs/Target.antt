-- Targets, and the built-in ones, which have names.
use Rattle.std.specs.Prelude.{◌≡◌, ◌⊎◌, ℕ, ◌≤◌, ◌==◌, Bool, true, false, not, ◌&&◌, List, [], ◌∷◌, codes, if◌then◌else◌, Option, Some, None}
use Rattle.op_table.specs.declared.order.StepSet.{StepSet}
use Rattle.op_table.specs.Words.{among}
use Rattle.op_table.specs.Limits.{most_locks}
use Rattle.target_desc.specs.declared.target.Target.{Target}

abbrev pub no_steps : StepSet
no_steps = record { swap = false; add = false; bits = false; order = false }

abbrev pub all_steps : StepSet
all_steps = record { swap = true; add = true; bits = true; order = true }

-- ---- what is a target

-- where each call is a critical section, nothing is packed, nothing else is one step, and there is one lock
pub record IsSection (t : Target) : Type 0 where
  pub apart : t.packed ≡ false
  pub steps : t.steps ≡ no_steps
  pub locks : t.locks ≡ 1

pub record IsTarget (t : Target) : Type 0 where
  pub bits : (t.word_bits ≡ 32) ⊎ (t.word_bits ≡ 64)
  pub some : 1 ≤ t.locks
  pub most : t.locks ≤ most_locks
  pub section : t.section ≡ true → IsSection t
  pub big : t.big ≡ true → t.packed ≡ true

-- ---- versions of descriptions

-- a description is of version 1 or 2
abbrev pub IsVersion : ℕ → Type 0
IsVersion version = (version ≡ 1) ⊎ (version ≡ 2)

-- only version 2 can say `big`
abbrev pub IsOfVersion : ℕ → Target → Type 0
IsOfVersion version t = t.big ≡ true → version ≡ 2

-- ---- tests

abbrev pub same_bool : Bool → Bool → Bool
same_bool true b = b
same_bool false b = not b

abbrev pub same_steps : StepSet → StepSet → Bool
same_steps a b = same_bool a.swap b.swap && (same_bool a.add b.add && (same_bool a.bits b.bits && same_bool a.order b.order))

abbrev pub same_target : Target → Target → Bool
same_target s t = (s.word_bits == t.word_bits) && (same_bool s.packed t.packed && (same_steps s.steps t.steps && ((s.locks == t.locks) && (same_bool s.section t.section && same_bool s.big t.big))))

abbrev pub suits_section : Bool → StepSet → ℕ → Bool
suits_section packed steps locks = not packed && same_steps steps no_steps && (locks == 1)

-- ---- the built-in targets

-- each with its name
abbrev pub builtins : List (List ℕ × Target)
builtins = (codes "full64", record { word_bits = 64; packed = false; steps = all_steps; locks = most_locks; section = false; big = false })
    ∷ (codes "word64", record { word_bits = 64; packed = true; steps = all_steps; locks = most_locks; section = false; big = false })
    ∷ (codes "word32", record { word_bits = 32; packed = true; steps = all_steps; locks = most_locks; section = false; big = false })
    ∷ (codes "cas32", record { word_bits = 32; packed = true; steps = no_steps; locks = most_locks; section = false; big = false })
    ∷ (codes "section32", record { word_bits = 32; packed = false; steps = no_steps; locks = 1; section = true; big = false })
    ∷ []

-- the target with a name
abbrev pub builtin_of : List ℕ → Option Target
builtin_of name = among builtins name

-- the name in the first row with the target
abbrev pub name_among : List (List ℕ × Target) → Target → Option (List ℕ)
name_among [] t = None
name_among (row ∷ rows) t = if same_target t row.1 then Some row.0 else name_among rows t

-- the name of a target
abbrev pub name_of : Target → Option (List ℕ)
name_of t = name_among builtins t
