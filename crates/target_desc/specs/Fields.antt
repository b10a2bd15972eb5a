-- The words of a description: what each stands for, and the word of each.
use Rattle.std.specs.Prelude.{ℕ, Bool, true, false, ◌&&◌, nat_le, List, [], ◌∷◌, ◌++◌, codes, if◌then◌else◌, Option, Some, None, Result, Ok, Err}
use Rattle.std.specs.Str.{bytes_eq}
use Rattle.op_table.specs.declared.order.StepSet.{StepSet}
use Rattle.op_table.specs.declared.kind.Width.TheVariants.{W32}
use Rattle.op_table.specs.declared.value.ValueFault.{ValueFault}
use Rattle.op_table.specs.Words.{among, rows_by, integer}
use Rattle.op_table.specs.Value.{parsed_value}
use Rattle.op_table.specs.Limits.{most_locks}
use Rattle.target_desc.specs.Target.{suits_section}

-- ---- words

abbrev pub packed_word : Bool → List ℕ
packed_word true = codes "packed"
packed_word false = codes "apart"

-- the words of steps, with `+` between them
abbrev pub joined : List (List ℕ) → List ℕ
joined [] = codes "none"
joined (w ∷ []) = w
joined (w ∷ v ∷ ws) = w ++ (codes "+" ++ joined (v ∷ ws))

-- a word in front, where it is wanted
abbrev pub with_word : Bool → List ℕ → List (List ℕ) → List (List ℕ)
with_word wanted w ws = if wanted then w ∷ ws else ws

-- the steps that a target has, in this order
abbrev pub steps_word : StepSet → List ℕ
steps_word s = joined (with_word s.swap (codes "swap") (with_word s.add (codes "add") (with_word s.bits (codes "bits") (with_word s.order (codes "order") []))))

abbrev pub section_word : Bool → List ℕ
section_word true = codes "section"
section_word false = codes "locks"

-- the word after these, which stands only where `big` holds
abbrev pub big_words : Bool → List (List ℕ)
big_words big = with_word big (codes "big") []

-- ---- what the words stand for

abbrev pub bits_of : List ℕ → Option ℕ
bits_of w = among ((codes "32", 32) ∷ (codes "64", 64) ∷ []) w

abbrev pub packed_of : List ℕ → Option Bool
packed_of w = among (rows_by packed_word (true ∷ false ∷ [])) w

abbrev pub step_set : Bool → Bool → Bool → Bool → StepSet
step_set swap add bits order = record { swap = swap; add = add; bits = bits; order = order }

-- the sixteen sets of steps
abbrev pub step_sets : List StepSet
step_sets = step_set false false false false ∷ step_set false false false true ∷ step_set false false true false ∷ step_set false false true true
    ∷ step_set false true false false ∷ step_set false true false true ∷ step_set false true true false ∷ step_set false true true true
    ∷ step_set true false false false ∷ step_set true false false true ∷ step_set true false true false ∷ step_set true false true true
    ∷ step_set true true false false ∷ step_set true true false true ∷ step_set true true true false ∷ step_set true true true true ∷ []

unfoldable pub steps_of : List ℕ → Option StepSet
steps_of w = among (rows_by steps_word step_sets) w

abbrev pub locks_in : Result ℕ ValueFault → Option ℕ
locks_in (Ok n) = if nat_le 1 n && nat_le n most_locks then Some n else None
locks_in (Err fault) = None

-- a number text of `u32` whose number is 1 to the most locks
abbrev pub locks_of : List ℕ → Option ℕ
locks_of w = locks_in (parsed_value (integer false W32) w)

-- `section` only where the earlier words suit it
abbrev pub section_of : Bool → StepSet → ℕ → List ℕ → Option Bool
section_of packed steps locks w = if bytes_eq w (codes "locks") then Some false
    else if bytes_eq w (codes "section") && suits_section packed steps locks then Some true
    else None

-- `big` only where the target is packed
abbrev pub big_of : Bool → Option Bool
big_of packed = if packed then Some true else None
