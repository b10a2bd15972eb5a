-- The passes of an arena, over histories of entries of any type: who has which number, what each has seen, which entries
-- are its own, and which passes have ended.
use Rattle.std.specs.Prelude.{◌≡◌, ◌≢◌, ◌⊎◌, ℕ, ◌+◌, ◌==◌, ◌≤◌, if◌then◌else◌, List, [], ◌∷◌, ◌++◌, Option, Some, None}
use Rattle.std.specs.List.{AllByRecursion}
use mathlib.Core.List.{IsPrefix}
use mathlib.Core.Option.{some}
use lib.ListN.{get_elem?}
use Rattle.place_core.specs.Histories.{Each, made_by, CallersWithin}

-- a view that was joined to a pass, and whose history is not yet compared with the pass's: none, of a note what it has
-- seen, of a pass its number, what it has seen, and its own entries
pub data Kept (E : Type 0) : Type 0 where
  NoneKept : Kept E
  NoteKept : List E → Kept E
  PassKept : ℕ → List E → List E → Kept E

-- a pass: its number, what it has seen, its own entries, the count of numbers given, the passes that ended, and what is
-- kept beside it. The count and the ended passes have a meaning in the root, which is the pass of number 0
pub record Known (E D : Type 0) : Type 0 where
  pub number : ℕ
  pub seen : List E
  pub mine : List E
  pub given : ℕ
  pub ended : List D
  pub beside : Kept E

-- what a view is: spent, a note of what was seen, or a pass
pub data Party (E D : Type 0) : Type 0 where
  NoParty : Party E D
  NoteOf : List E → Party E D
  PassOf : Known E D → Party E D

-- the numbers of ended passes differ
abbrev pub EndedOnce : {D : Type 0} → (D → ℕ) → List D → Type 0
EndedOnce number_of ended = Each (λ before d. AllByRecursion (λ b. number_of b ≢ number_of d) before) ended

-- what a root's pass knows: no caller has a number past the count, and of each ended pass all entries
module _ {E D : Type 0} (caller_of : E → ℕ) (number_of : D → ℕ) (entries_of : D → List E) where
  pub record IsEnded (seen : List E) (given : ℕ) (d : D) : Type 0 where
    pub from_one : 1 ≤ number_of d
    pub within : number_of d ≤ given
    pub own : made_by caller_of seen (number_of d) ≡ entries_of d

  pub record IsRootSound (seen : List E) (given : ℕ) (ended : List D) : Type 0 where
    pub callers : CallersWithin caller_of given seen
    pub back : AllByRecursion (IsEnded seen given) ended
    pub once : EndedOnce number_of ended

-- the history, the count of numbers given, and the seat that has a number, none where its pass ended or was never given
module _ {E D : Type 0} (caller_of : E → ℕ) (number_of : D → ℕ) (entries_of : D → List E) (log : List E) (count : ℕ) (owner : ℕ → Option ℕ) where
  -- a number that was given and that no pass has any more, with all its entries
  pub record Gone (n : ℕ) (own : List E) : Type 0 where
    pub free : owner n ≡ None
    pub from_one : 1 ≤ n
    pub within : n ≤ count
    pub all : made_by caller_of log n ≡ own

  -- what is kept beside a pass has seen a beginning of the history; the number of a pass there is gone, and not yet among
  -- the ended
  abbrev pub KnowsKept : List D → Kept E → Type 0
  KnowsKept ended NoneKept = Unit {0}
  KnowsKept ended (NoteKept seen) = IsPrefix seen log
  KnowsKept ended (PassKept n seen mine) = Gone n mine × IsPrefix seen log × (made_by caller_of seen n ≡ mine) × AllByRecursion (λ d. number_of d ≢ n) ended

  -- an ended pass of which the root has seen all entries
  abbrev pub KnowsEnded : List E → D → Type 0
  KnowsEnded seen d = Gone (number_of d) (entries_of d) × (made_by caller_of seen (number_of d) ≡ entries_of d)

  pub record KnowsRoot (p : Known E D) : Type 0 where
    pub given : p.given ≡ count
    pub ended : AllByRecursion (KnowsEnded p.seen) p.ended
    pub once : EndedOnce number_of p.ended

  -- the seat j has the pass's number, and all entries of that number are the pass's own and seen by it
  pub record KnowsPass (j : ℕ) (p : Known E D) : Type 0 where
    pub owned : owner p.number ≡ Some j
    pub within : p.number ≤ count
    pub prefix : IsPrefix p.seen log
    pub all : made_by caller_of log p.number ≡ p.mine
    pub own : made_by caller_of p.seen p.number ≡ p.mine
    pub beside : KnowsKept p.ended p.beside
    pub root : p.number ≡ 0 → KnowsRoot p

  abbrev pub Knows : ℕ → Party E D → Type 0
  Knows j NoParty = Unit {0}
  Knows j (NoteOf seen) = IsPrefix seen log
  Knows j (PassOf p) = KnowsPass j p

module _ {E : Type 0} (log : List E) where
  -- what is kept there has seen the whole history
  abbrev pub KeptSeesAll : Kept E → Type 0
  KeptSeesAll NoneKept = ⊥
  KeptSeesAll (NoteKept seen) = seen ≡ log
  KeptSeesAll (PassKept n seen mine) = seen ≡ log

  abbrev pub SeesAll : {D : Type 0} → Party E D → Type 0
  SeesAll NoParty = ⊥
  SeesAll (NoteOf seen) = seen ≡ log
  SeesAll (PassOf p) = (p.seen ≡ log) ⊎ KeptSeesAll p.beside

-- some view has seen the whole history
pub record IsSeenWhole {E D V : Type 0} (party : V → Party E D) (log : List E) (views : List V) : Type 0 where
  pub seat : ℕ
  pub view : V
  pub there : get_elem? views seat ≡ some view
  pub sees : SeesAll log (party view)

-- one legal history, of which each view has seen a beginning, and some view all; each number that was given has one pass,
-- or is gone
pub record Passes {E D V : Type 0} (party : V → Party E D) (Legal : List E → Type 0) (caller_of : E → ℕ) (number_of : D → ℕ) (entries_of : D → List E)
    (log : List E) (count : ℕ) (owner : ℕ → Option ℕ) (views : List V) : Type 0 where
  pub legal : Legal log
  pub callers : CallersWithin caller_of count log
  pub knows : (j : ℕ) (v : V) → get_elem? views j ≡ some v → Knows caller_of number_of entries_of log count owner j (party v)
  pub whole : IsSeenWhole party log views

-- ---- what a step makes of a pass and of the owners

-- of two beginnings of one list the longer
abbrev pub longer : {E : Type 0} → List E → List E → List E
longer [] ys = ys
longer (x ∷ xs) [] = x ∷ xs
longer (x ∷ xs) (y ∷ ys) = x ∷ longer xs ys

module _ {E D : Type 0} where
  -- the pass after an entry of its own, which it made where it had seen all
  abbrev pub with_entry : Known E D → List E → E → Known E D
  with_entry p log x = record p { seen = log ++ x ∷ []; mine = p.mine ++ x ∷ []; beside = NoneKept }

  -- the pass where it has seen all
  abbrev pub with_all : Known E D → List E → Known E D
  with_all p log = record p { seen = log; beside = NoneKept }

  -- the root after it gave a number, and the pass of that number
  abbrev pub with_given : Known E D → Known E D
  with_given p = record p { given = p.given + 1 }

  abbrev pub new_pass : Known E D → Known E D
  new_pass p = record { number = p.given + 1; seen = p.seen; mine = []; given = 0; ended = []; beside = NoneKept }

  -- the pass with another's view beside it
  abbrev pub with_kept : Known E D → Kept E → Known E D
  with_kept p k = record p { beside = k }

  -- the root where the pass that was kept beside it has ended
  abbrev pub with_ended : Known E D → List E → D → Known E D
  with_ended p seen d = record p { seen = longer p.seen seen; ended = p.ended ++ d ∷ []; beside = NoneKept }

  -- the pass where it has seen what the note that was kept beside it has seen
  abbrev pub with_note : Known E D → List E → Known E D
  with_note p seen = record p { seen = longer p.seen seen; beside = NoneKept }

-- one more number has an owner, and one number has none any more
abbrev pub owner_given : (ℕ → Option ℕ) → ℕ → ℕ → ℕ → Option ℕ
owner_given owner n seat m = if m == n then Some seat else owner m

abbrev pub owner_gone : (ℕ → Option ℕ) → ℕ → ℕ → Option ℕ
owner_gone owner n m = if m == n then None else owner m
