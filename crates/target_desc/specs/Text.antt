-- The one text of a target.
use Rattle.std.specs.Prelude.{ℕ, List, [], ◌∷◌, Option, Some, None}
use Rattle.std.specs.List.{join_with_byte}
use Rattle.std.specs.Fmt.{decimal}
use Rattle.target_desc.specs.declared.target.Target.{Target}
use Rattle.target_desc.specs.Target.{name_of}
use Rattle.target_desc.specs.Fields.{packed_word, steps_word, section_word, big_words}

-- the five words of a description, and `big` where it holds
abbrev pub description_words : Target → List (List ℕ)
description_words t = decimal t.word_bits ∷ packed_word t.packed ∷ steps_word t.steps ∷ decimal t.locks ∷ section_word t.section ∷ big_words t.big

abbrev pub description_text : Target → List ℕ
description_text t = join_with_byte 32 (description_words t)

abbrev pub words_by : Option (List ℕ) → Target → List (List ℕ)
words_by None t = description_words t
words_by (Some name) t = name ∷ []

-- the name where it has one, else the description
abbrev pub target_words : Target → List (List ℕ)
target_words t = words_by (name_of t) t

-- the words with one space between
abbrev pub target_text : Target → List ℕ
target_text t = join_with_byte 32 (target_words t)
