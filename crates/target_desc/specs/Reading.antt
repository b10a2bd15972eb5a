-- Reading a target, with the first fault that is met.
use Rattle.std.specs.Prelude.{ℕ, ◌+◌, ◌==◌, Bool, false, ◌&&◌, List, [], ◌∷◌, codes, Option, Some, None, Result, Ok, Err, if◌then◌else◌}
use Rattle.std.specs.Str.{bytes_eq}
use Rattle.line_words.specs.Text.{words_of}
use Rattle.line_words.specs.Cursor.{Cursor, at_end}
use Rattle.line_words.specs.Steps.{◌>>=◌}
use Rattle.target_desc.specs.declared.target.Target.{Target}
use Rattle.target_desc.specs.declared.reading.TargetFault.{TargetFault}
use Rattle.target_desc.specs.declared.reading.TargetFault.TheVariants.{Bad, Missing, Extra}
use Rattle.target_desc.specs.Target.{builtin_of}
use Rattle.target_desc.specs.Fields.{bits_of, packed_of, steps_of, locks_of, section_of, big_of}

-- the words of a text, before which so many stand
abbrev pub cursor_of : ℕ → List ℕ → Cursor
cursor_of taken text = record { taken = taken; left = words_of text }

-- ---- steps

abbrev pub take_word : ℕ → List (List ℕ) → Result (List ℕ × Cursor) TargetFault
take_word taken [] = Err (Missing (taken + 1))
take_word taken (w ∷ ws) = Ok (w, record { taken = taken + 1; left = ws })

-- the next word
unfoldable pub word_at : Cursor → Result (List ℕ × Cursor) TargetFault
word_at c = take_word c.taken c.left

abbrev pub some_or : {A : Type 0} → ℕ → Option A → Result A TargetFault
some_or place None = Err (Bad place)
some_or place (Some x) = Ok x

-- what the last word must stand for
unfoldable pub need_at : {A : Type 0} → Cursor → Option A → Result A TargetFault
need_at c found = some_or c.taken found

abbrev pub no_word : ℕ → List (List ℕ) → Result (Unit {0}) TargetFault
no_word taken [] = Ok tt
no_word taken (w ∷ ws) = Err (Extra (taken + 1))

-- no further word
unfoldable pub end_at : Cursor → Result (Unit {0}) TargetFault
end_at c = no_word c.taken c.left

-- ---- targets

-- in version 2 the next word is `big`; version 1 doesn't know the word
abbrev pub begins_big : ℕ → List (List ℕ) → Bool
begins_big version [] = false
begins_big version (w ∷ ws) = (version == 2) && bytes_eq w (codes "big")

-- the word `big`, and nothing after it
unfoldable pub big_word_at : Bool → Cursor → Result Bool TargetFault
big_word_at packed c = do
  w ← word_at c
  big ← need_at w.1 (big_of packed)
  _ ← end_at w.1
  Ok big

-- nothing, so that `big` doesn't hold
unfoldable pub no_big_at : Cursor → Result Bool TargetFault
no_big_at c = do
  _ ← end_at c
  Ok false

-- what is left after the five words of a description
unfoldable pub big_at : ℕ → Bool → Cursor → Result Bool TargetFault
big_at version packed c = if begins_big version c.left then big_word_at packed c else no_big_at c

-- the words of a description, of which the first one is taken
unfoldable pub description_at : ℕ → List ℕ → Cursor → Result Target TargetFault
description_at version first c = do
  bits ← need_at c (bits_of first)
  p ← word_at c
  packed ← need_at p.1 (packed_of p.0)
  s ← word_at p.1
  steps ← need_at s.1 (steps_of s.0)
  l ← word_at s.1
  locks ← need_at l.1 (locks_of l.0)
  k ← word_at l.1
  section ← need_at k.1 (section_of packed steps locks k.0)
  big ← big_at version packed k.1
  Ok (record { word_bits = bits; packed = packed; steps = steps; locks = locks; section = section; big = big })

-- one word is a name; more are a description of the version
unfoldable pub target_at : ℕ → Cursor → Result Target TargetFault
target_at version c = do
  first ← word_at c
  if at_end first.1 then need_at first.1 (builtin_of first.0) else description_at version first.0 first.1

-- the part of a line that follows the word `target`
unfoldable pub reading_of_target : ℕ → List ℕ → Result Target TargetFault
reading_of_target version text = target_at version (cursor_of 1 text)
