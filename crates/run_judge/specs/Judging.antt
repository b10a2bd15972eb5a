-- How a report is judged.
use Rattle.std.specs.Prelude.{◌≡◌, ◌↔◌, ℕ, ◌+◌, ◌<◌, true, List, length, Some, slice_get, slice_index}
use Rattle.std.specs.Ordering.{nat_cmp}
use Rattle.std.specs.Cmp.Lexicographic.{slice_cmp}
use Rattle.std.specs.BTreeSet.{BTreeSet, contains}
use Rattle.op_table.specs.declared.call.Reply.{Reply}
use Rattle.op_table.specs.declared.call.Reply.TheVariants as reply
use Rattle.place_core.specs.declared.script.Line.{Line}
use Rattle.place_core.specs.declared.shape.Shape.{Shape}
use Rattle.run_steps.specs.Parts.{lines_of}
use Rattle.run_outcomes.specs.Outcomes.{EndsAll}
use Rattle.run_judge.specs.Agreeing.{replies_at, IsOfAgreeing}

-- the report has a reply for each line
pub record HasReplies (scripts : List (List Line)) (wanted : List (List Reply)) : Type 0 where
  pub threads : length wanted ≡ length scripts
  pub lines : (t : ℕ) → t < length scripts → length (replies_at wanted t) ≡ length (lines_of scripts t)

-- the last values at the state, of m objects of n threads, are those of the report
pub record HasLast (n m : ℕ) (last : List Reply) (s : List ℕ) : Type 0 where
  pub count : length last ≡ m
  pub values : (o : ℕ) → o < m → slice_get last o ≡ Some (reply.Value (slice_index s (n + n + o)))

-- in the state each thread made all its calls, and it has the last values of the report
pub record Shows (S : Shape) (scripts : List (List Line)) (last : List Reply) (s : List ℕ) : Type 0 where
  pub ends : EndsAll scripts s
  pub shown : HasLast (length scripts) (length S.objects) last s

-- the set has exactly the states of beginnings of runs that agree with the report
abbrev pub HasEveryAgreeing : Shape → List (List Line) → ℕ → List (List Reply) → BTreeSet (List ℕ) → Type 0
HasEveryAgreeing S scripts kept wanted found = (s : List ℕ) → (contains (slice_cmp nat_cmp) found s ≡ true) ↔ IsOfAgreeing S scripts kept wanted s

-- what is kept from one state to the next: those left are states of agreeing beginnings, and each such state that shows the report is left
pub record IsLooking (S : Shape) (scripts : List (List Line)) (kept : ℕ) (wanted : List (List Reply)) (last : List Reply) (left : BTreeSet (List ℕ)) : Type 0 where
  pub states : (s : List ℕ) → contains (slice_cmp nat_cmp) left s ≡ true → IsOfAgreeing S scripts kept wanted s
  pub each : (s : List ℕ) → IsOfAgreeing S scripts kept wanted s → Shows S scripts last s → contains (slice_cmp nat_cmp) left s ≡ true
