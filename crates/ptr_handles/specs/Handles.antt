-- What contracts say of handles.
use Rattle.std.specs.Prelude.{◌≡◌, ℕ, ◌+◌, ◌-◌, ◌*◌, ◌/◌, ◌<◌, List, Some, slice_get}

-- a handle with these bits isn't null, and points to this item: the bits without the tag count from 1
abbrev pub NamesItem : {T : Type 0} → List T → ℕ → T → Type 0
NamesItem items bits item = (0 < bits / 16) × (slice_get items (bits / 16 - 1) ≡ Some item)

-- the handle of item i, with any tag, points to item i
abbrev pub TaggedHandleNamesItem : Type 0
TaggedHandleNamesItem = (i tag : ℕ) → tag < 16 → (16 * (i + 1) + tag) / 16 ≡ i + 1
