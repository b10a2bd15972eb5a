-- Laws of shapes and of steps that serve calls, as the module `shape_laws` proves them.
use Rattle.std.specs.Prelude.{◌≡◌, ◌≢◌, ◌⊎◌, ℕ, ◌+◌, ◌*◌, ◌/◌, ◌%◌, ◌^◌, ◌<◌, ◌≤◌, true, List, [], ◌∷◌, ◌++◌, Some}
use Rattle.op_table.specs.declared.call.Call.{Call}
use Rattle.op_table.specs.Kind.{values_of}
use Rattle.op_table.specs.Call.{after_of, answer_of, CallFits}
use Rattle.place_core.specs.declared.entry.Entry.{Entry}
use Rattle.place_core.specs.declared.places.Place.{Place}
use Rattle.place_core.specs.declared.places.Place.TheVariants.{Lane, Parts}
use Rattle.place_core.specs.declared.places.WordOp.{WordOp}
use Rattle.place_core.specs.declared.shape.Shape.{Shape}
use Rattle.place_core.specs.Cells.{left_by, value_of, IsLegal}
use Rattle.place_core.specs.Shapes.{place_of, kind_of, start_of, cells_of_shape, word_of, is_sole, IsShape}
use Rattle.place_core.specs.Operations.{word_after, IsReplaced, OpServes}

-- ---- places

-- the place has bits of the data word v
abbrev pub LiesOn : Place → ℕ → Type 0
LiesOn (Lane w s d) v = w ≡ v
LiesOn (Parts l f n b) v = (f ≤ v) × (v < f + n)

-- a place lies in data words of the shape
abbrev pub PlaceIsWithin : Type 0
PlaceIsWithin = (S : Shape) → IsShape S → (o : ℕ) (a : Place) (v : ℕ) → place_of S o ≡ Some a → LiesOn a v → v < S.words

-- lanes of one word share no bit
abbrev pub LanesAreApart : Type 0
LanesAreApart = (S : Shape) → IsShape S → (o p w s d t e : ℕ) → place_of S o ≡ Some (Lane w s d) → place_of S p ≡ Some (Lane w t e) → o ≢ p → (s + d ≤ t) ⊎ (t + e ≤ s)

-- no other object lies on a part's word
abbrev pub PartWordIsOwn : Type 0
PartWordIsOwn = (S : Shape) → IsShape S → (o p l f n b v : ℕ) (a : Place) → place_of S o ≡ Some (Parts l f n b) → LiesOn (Parts l f n b) v → place_of S p ≡ Some a → LiesOn a v → p ≡ o

-- ---- values, and the words of lanes

abbrev pub ValueAtShapeStart : Type 0
ValueAtShapeStart = (S : Shape) (o : ℕ) → value_of (cells_of_shape S) [] o ≡ start_of S o

-- a value is one of its object's kind
abbrev pub ValueFits : Type 0
ValueFits = (S : Shape) → IsShape S → (H : List Entry) → IsLegal (cells_of_shape S) H → (o : ℕ) → value_of (cells_of_shape S) H o < values_of (kind_of S o)

-- a word is one of 64 bits
abbrev pub WordFits : Type 0
WordFits = (S : Shape) → IsShape S → (H : List Entry) → IsLegal (cells_of_shape S) H → (w : ℕ) → word_of S H w < 2 ^ 64

-- the bits of a lane are its object's value
abbrev pub LaneHoldsValue : Type 0
LaneHoldsValue = (S : Shape) → IsShape S → (H : List Entry) → IsLegal (cells_of_shape S) H → (o w s d : ℕ) → place_of S o ≡ Some (Lane w s d) → word_of S H w / 2 ^ s % 2 ^ d ≡ value_of (cells_of_shape S) H o

-- a word with one lane holds nothing else
abbrev pub SoleWordIsValue : Type 0
SoleWordIsValue = (S : Shape) (H : List Entry) (o w s d : ℕ) → place_of S o ≡ Some (Lane w s d) → is_sole S w ≡ true → word_of S H w ≡ value_of (cells_of_shape S) H o * 2 ^ s

-- an entry on a lane's object replaces the lane
abbrev pub EntryReplacesLane : Type 0
EntryReplacesLane = (S : Shape) (H : List Entry) (x : Entry) (w s d : ℕ) → place_of S x.object ≡ Some (Lane w s d)
    → word_of S (H ++ x ∷ []) w + value_of (cells_of_shape S) H x.object * 2 ^ s ≡ word_of S H w + left_by (kind_of S x.object) x (value_of (cells_of_shape S) H x.object) * 2 ^ s

-- an entry on an object without a lane in the word leaves the word
abbrev pub EntryLeavesWord : Type 0
EntryLeavesWord = (S : Shape) (H : List Entry) (x : Entry) (w : ℕ) → ((s d : ℕ) → place_of S x.object ≢ Some (Lane w s d)) → word_of S (H ++ x ∷ []) w ≡ word_of S H w

-- ---- steps

-- a step that serves a call puts the call's value in the lane's bits, and leaves every other bit
abbrev pub StepReplacesLane : Type 0
StepReplacesLane = (S : Shape) → IsShape S → (H : List Entry) → IsLegal (cells_of_shape S) H → (o : ℕ) (call : Call) (done : WordOp) (serves : OpServes S o call done) → CallFits (kind_of S o) call
    → IsReplaced serves.shift serves.width (after_of (kind_of S o) call (value_of (cells_of_shape S) H o)) (word_of S H serves.word) (word_after done (word_of S H serves.word))

-- the lane's bits of the word found give the call's reply
abbrev pub StepTellsReply : Type 0
StepTellsReply = (S : Shape) → IsShape S → (H : List Entry) → IsLegal (cells_of_shape S) H → (o : ℕ) (call : Call) (done : WordOp) (serves : OpServes S o call done)
    → answer_of (kind_of S o) call (word_of S H serves.word / 2 ^ serves.shift % 2 ^ serves.width) ≡ answer_of (kind_of S o) call (value_of (cells_of_shape S) H o)

-- so the word after the step is the word after the call's entry
abbrev pub StepMakesCall : Type 0
StepMakesCall = (S : Shape) → IsShape S → (H : List Entry) → IsLegal (cells_of_shape S) H → (call : Call) (done : WordOp) (x : Entry) → x.call ≡ call → (serves : OpServes S x.object call done) → CallFits (kind_of S x.object) call
    → x.reply ≡ answer_of (kind_of S x.object) call (word_of S H serves.word / 2 ^ serves.shift % 2 ^ serves.width) → word_after done (word_of S H serves.word) ≡ word_of S (H ++ x ∷ []) serves.word
