-- How far the stamp of a lock has come.
use Rattle.std.specs.Prelude.{◌≡◌, ℕ, ◌+◌, ◌*◌, ◌==◌, ◌≤◌, Bool, false, if◌then◌else◌, List, [], ◌∷◌, ◌++◌, Option, Some, None}
use Rattle.place_core.specs.declared.entry.Entry.{Entry}
use Rattle.place_core.specs.declared.places.Place.{Place}
use Rattle.place_core.specs.declared.places.Place.TheVariants.{Lane, Parts}
use Rattle.place_core.specs.declared.shape.Shape.{Shape}
use Rattle.place_core.specs.Cells.{entries_by}
use Rattle.place_core.specs.Shapes.{place_of}

-- an object there has parts under lock l
abbrev pub is_under : ℕ → Option Place → Bool
is_under l None = false
is_under l (Some (Lane w s d)) = false
is_under l (Some (Parts k f n b)) = k == l

-- how many entries are on objects under lock l
unfoldable pub entries_under : Shape → ℕ → List Entry → ℕ
entries_under S l [] = 0
entries_under S l (x ∷ xs) = (if is_under l (place_of S x.object) then 1 else 0) + entries_under S l xs

-- n is the stamp of lock l at some point of the history, where each lock began with the first stamp. The history there
-- begins with what the pass of this number has seen, none of the further entries is the pass's own, and a root that has
-- given no number has seen all of it. The stamp is at least the first, and at most two more for each entry on the lock's
-- objects
pub record IsStampIn (S : Shape) (l first number given : ℕ) (seen : List Entry) (n : ℕ) : Type 0 where
  pub between : List Entry
  pub others : entries_by between number ≡ []
  pub alone : number ≡ 0 → given ≡ 0 → between ≡ []
  pub least : first ≤ n
  pub most : n ≤ first + 2 * entries_under S l (seen ++ between)
