-- What reading all and writing all do to the bytes of a source and of a sink, where they are told.
use Rattle.std.specs.Prelude.{◌≡◌, ℕ, ◌+◌, ◌<◌, ◌≤◌, Bool, true, List, [], ◌∷◌, ◌++◌, length, take, drop, IfSome, Some, OnOk, OnErr, Result}
use Rattle.std.specs.declared.option.Option.{Option}
use Rattle.std.specs.Io.KnownBytes.{Appends}
use Rattle.work_lang.specs.Faults.{HasCause}
use Rattle.work_lang.specs.Counts.{raised}

-- one byte more than a text may have
abbrev pub most_read : ℕ
most_read = 8388609

-- told bytes lose their first `most_read`, and those are what was read
abbrev pub ReadsAll : {S : Type 0} → (S → Option (List ℕ)) → S → S → List ℕ → Type 0
ReadsAll left old new read = IfSome (left old) (λ bytes. (read ≡ take most_read bytes) × (left new ≡ Some (drop most_read bytes)))

-- told bytes lose a front of at most `most_read`
abbrev pub LosesFront : {S : Type 0} → (S → Option (List ℕ)) → S → S → Type 0
LosesFront left old new = IfSome (left old) (λ bytes. (n : ℕ) × (n ≤ most_read) × (left new ≡ Some (drop n bytes)))

-- lines, each with its end, as one text
abbrev pub text_of : List (List ℕ) → List ℕ
text_of [] = []
text_of (line ∷ lines) = line ++ text_of lines

-- told bytes grow by a front of a text, and not by all of it
abbrev pub AppendsFront : Option (List ℕ) → Option (List ℕ) → List ℕ → Type 0
AppendsFront old new text = (n : ℕ) × (n < length text) × Appends old new (take n text)

-- told bytes grow by the first of these lines, each with its end, and not by all of them; each of them was tried once, and
-- the one that failed
abbrev pub AppendsFirst : Option (List ℕ) → Option (List ℕ) → ℕ → ℕ → List (List ℕ) → Type 0
AppendsFirst old new tries now lines = (n : ℕ) × (n < length lines) × Appends old new (text_of (take n lines)) × (now ≡ raised tries (n + 1))

-- what writing these lines does: at `Ok` all of their text was taken, at a fault a front of it. Where the sink takes each
-- line whole or not at all, that is the first lines, and each line was tried once, as one piece
pub record Writes {S E : Type 0} (taken : S → Option (List ℕ)) (faults tries : S → ℕ) (whole : S → Bool) (old new : S) (result : Result (Unit {0}) E) (lines : List (List ℕ)) : Type 0 where
  pub ok : OnOk result (Appends (taken old) (taken new) (text_of lines))
  pub err : OnErr result (AppendsFront (taken old) (taken new) (text_of lines))
  pub once : OnOk result (whole old ≡ true → tries new ≡ raised (tries old) (length lines))
  pub first : OnErr result (whole old ≡ true → AppendsFirst (taken old) (taken new) (tries old) (tries new) lines)
  pub kept : whole new ≡ whole old
  pub cause : HasCause (faults old) (faults new) result

-- lines that are written one by one: those before `rest` were taken, and nothing failed
pub record WroteUpTo {S : Type 0} (taken : S → Option (List ℕ)) (faults tries : S → ℕ) (whole : S → Bool) (old new : S) (lines rest : List (List ℕ)) : Type 0 where
  pub done : List (List ℕ)
  pub split : lines ≡ done ++ rest
  pub told : Appends (taken old) (taken new) (text_of done)
  pub once : whole old ≡ true → tries new ≡ raised (tries old) (length done)
  pub kept : whole new ≡ whole old
  pub same : faults new ≡ faults old
