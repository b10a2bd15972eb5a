-- When a weak exchange may fail with the value that it expects.
use Rattle.std.specs.Prelude.{◌≡◌, ◌≢◌, ℕ, ◌≤◌, false, List, [], ◌∷◌, ◌++◌, Some}
use Rattle.op_table.specs.declared.call.Call.TheVariants.{CasWeak}
use Rattle.op_table.specs.declared.call.Reply.TheVariants as reply
use Rattle.place_core.specs.declared.entry.Entry.{Entry}
use Rattle.place_core.specs.declared.places.Place.TheVariants.{Lane}
use Rattle.place_core.specs.declared.shape.Shape.{Shape}
use Rattle.place_core.specs.Histories.{Each}
use Rattle.place_core.specs.Cells.{entries_by}
use Rattle.place_core.specs.Shapes.{place_of, word_of, is_sole}
use Rattle.place_core.specs.Changes.{changes_from}

-- the entry, after these, changes data word w
abbrev pub ChangesWord : Shape → ℕ → List Entry → Entry → Type 0
ChangesWord S w before x = word_of S (before ++ x ∷ []) w ≢ word_of S before w

-- how many of the entries `since`, which come after `before`, are of other callers than c and change data word w
abbrev pub changes_by_others : Shape → ℕ → ℕ → List Entry → List Entry → ℕ
changes_by_others S w c before since = changes_from (λ (x : Entry). x.caller) (λ H. word_of S H w) c before since

-- the entry's object shares its word with another lane, and since the caller's last entry, if it has one, another caller
-- has changed that word
pub record IsEarned (S : Shape) (G : List Entry) (x : Entry) : Type 0 where
  pub word : ℕ
  pub shift : ℕ
  pub width : ℕ
  pub lane : place_of S x.object ≡ Some (Lane word shift width)
  pub shared : is_sole S word ≡ false
  pub before : List Entry
  pub since : List Entry
  pub split : G ≡ before ++ since
  pub quiet : entries_by since x.caller ≡ []
  pub changed : 1 ≤ changes_by_others S word x.caller before since

-- a weak exchange failed with the value that it expects
abbrev pub IsSpuriousEntry : Entry → Type 0
IsSpuriousEntry x = (e : ℕ) × (n : ℕ) × (x.call ≡ CasWeak e n) × (x.reply ≡ reply.Failed e)

-- each spurious failure of the history is earned
abbrev pub AllEarned : Shape → List Entry → Type 0
AllEarned S H = Each (λ G x. IsSpuriousEntry x → IsEarned S G x) H
