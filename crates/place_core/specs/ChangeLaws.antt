-- Laws of changes that others made, and of earned failures, as the module `laws::changes` proves them.
use Rattle.std.specs.Prelude.{◌≡◌, ◌≢◌, ◌↔◌, ℕ, ◌+◌, ◌/◌, ◌%◌, ◌^◌, ◌≤◌, true, List, [], ◌∷◌, ◌++◌, length, Some}
use mathlib.Core.List.{IsPrefix}
use Rattle.op_table.specs.Call.{answer_of}
use Rattle.place_core.specs.declared.entry.Entry.{Entry}
use Rattle.place_core.specs.declared.places.Place.TheVariants.{Lane, Parts}
use Rattle.place_core.specs.declared.shape.Shape.{Shape}
use Rattle.place_core.specs.Cells.{left_by, value_of, entries_by, IsLegal}
use Rattle.place_core.specs.Shapes.{place_of, kind_of, cells_of_shape, word_of, is_sole, IsShape}
use Rattle.place_core.specs.Earned.{ChangesWord, changes_by_others, IsEarned, IsSpuriousEntry, AllEarned}

-- ---- which entries change a word

-- an entry changes a word exactly where its object has a lane there and its call leaves another value
pub record ChangesLane (S : Shape) (w : ℕ) (before : List Entry) (x : Entry) : Type 0 where
  pub shift : ℕ
  pub width : ℕ
  pub lane : place_of S x.object ≡ Some (Lane w shift width)
  pub other : left_by (kind_of S x.object) x (value_of (cells_of_shape S) before x.object) ≢ value_of (cells_of_shape S) before x.object

abbrev pub ChangeIsOfLane : Type 0
ChangeIsOfLane = (S : Shape) (w : ℕ) (before : List Entry) (x : Entry) → ChangesWord S w before x ↔ ChangesLane S w before x

-- ---- how changes of others are counted

abbrev pub NoEntryNoChange : Type 0
NoEntryNoChange = (S : Shape) (w c : ℕ) (before : List Entry) → changes_by_others S w c before [] ≡ 0

-- another's entry that changes the word counts one
abbrev pub OtherChangeCounts : Type 0
OtherChangeCounts = (S : Shape) (w c : ℕ) (before : List Entry) (x : Entry) → x.caller ≢ c → ChangesWord S w before x → changes_by_others S w c before (x ∷ []) ≡ 1

-- the caller's own entry doesn't count
abbrev pub OwnChangeCountsNot : Type 0
OwnChangeCountsNot = (S : Shape) (w c : ℕ) (before : List Entry) (x : Entry) → x.caller ≡ c → changes_by_others S w c before (x ∷ []) ≡ 0

-- an entry that leaves the word doesn't count
abbrev pub KeptWordCountsNot : Type 0
KeptWordCountsNot = (S : Shape) (w c : ℕ) (before : List Entry) (x : Entry) → (ChangesWord S w before x → ⊥) → changes_by_others S w c before (x ∷ []) ≡ 0

-- a stretch of the caller's own entries counts none
abbrev pub OwnStretchCountsNone : Type 0
OwnStretchCountsNone = (S : Shape) (w c : ℕ) (before since : List Entry) → entries_by since c ≡ since → changes_by_others S w c before since ≡ 0

-- over two stretches the changes add up
abbrev pub ChangesAddUp : Type 0
ChangesAddUp = (S : Shape) (w c : ℕ) (before since more : List Entry) → changes_by_others S w c before (since ++ more) ≡ changes_by_others S w c before since + changes_by_others S w c (before ++ since) more

-- no more changes than entries
abbrev pub ChangesAreEntries : Type 0
ChangesAreEntries = (S : Shape) (w c : ℕ) (before since : List Entry) → changes_by_others S w c before since ≤ length since

-- where the word differs and the caller made no entry, another has changed it
abbrev pub OtherWordWasChanged : Type 0
OtherWordWasChanged = (S : Shape) (w c : ℕ) (before since : List Entry) → entries_by since c ≡ [] → word_of S (before ++ since) w ≢ word_of S before w → 1 ≤ changes_by_others S w c before since

-- a loop's count of lost tries: where its next try finds another word, and it made no entry, there is one change more
abbrev pub LostTryIsPaid : Type 0
LostTryIsPaid = (S : Shape) (w c lost : ℕ) (before since more : List Entry) → lost ≤ changes_by_others S w c before since → entries_by more c ≡ []
    → word_of S ((before ++ since) ++ more) w ≢ word_of S (before ++ since) w → lost + 1 ≤ changes_by_others S w c before (since ++ more)

-- ---- earned failures

abbrev pub EmptyIsEarned : Type 0
EmptyIsEarned = (S : Shape) → AllEarned S []

-- one more entry
abbrev pub EarnedWithOneMore : Type 0
EarnedWithOneMore = (S : Shape) (H : List Entry) (x : Entry) → AllEarned S (H ++ x ∷ []) ↔ (AllEarned S H × (IsSpuriousEntry x → IsEarned S H x))

abbrev pub EarnedInFront : Type 0
EarnedInFront = (S : Shape) (H K : List Entry) → IsPrefix H K → AllEarned S K → AllEarned S H

-- two words found with one value of the lane, and no entry of the caller between, earn the failure
abbrev pub TwoWordsEarn : Type 0
TwoWordsEarn = (S : Shape) → IsShape S → (before since : List Entry) (x : Entry) → IsLegal (cells_of_shape S) (before ++ since) → (w s d n m : ℕ) → place_of S x.object ≡ Some (Lane w s d)
    → entries_by since x.caller ≡ [] → n ≡ word_of S before w → m ≡ word_of S (before ++ since) w → n ≢ m → n / 2 ^ s % 2 ^ d ≡ m / 2 ^ s % 2 ^ d → IsEarned S (before ++ since) x

-- on a lane alone in its word no failure is earned
abbrev pub SoleLaneEarnsNone : Type 0
SoleLaneEarnsNone = (S : Shape) (G : List Entry) (x : Entry) (w s d : ℕ) → place_of S x.object ≡ Some (Lane w s d) → is_sole S w ≡ true → IsEarned S G x → ⊥

-- nor on an object with parts
abbrev pub PartsEarnNone : Type 0
PartsEarnNone = (S : Shape) (G : List Entry) (x : Entry) (l f n b : ℕ) → place_of S x.object ≡ Some (Parts l f n b) → IsEarned S G x → ⊥

-- nor before another caller's entry has changed the word
abbrev pub NothingEarnsNone : Type 0
NothingEarnsNone = (S : Shape) (G : List Entry) (x : Entry) → entries_by G x.caller ≡ G → IsEarned S G x → ⊥

-- the table's reply is no spurious failure
abbrev pub TableReplyIsNotSpurious : Type 0
TableReplyIsNotSpurious = (S : Shape) (x : Entry) (v : ℕ) → x.reply ≡ answer_of (kind_of S x.object) x.call v → IsSpuriousEntry x → ⊥
