-- Laws of words in which lanes lie, as the module `laws::words` proves them.
use Rattle.std.specs.Prelude.{◌≡◌, ◌≢◌, ◌⊎◌, ℕ, ◌+◌, ◌/◌, ◌%◌, ◌^◌, ◌≤◌, List, [], ◌∷◌, ◌++◌, Some}
use Rattle.op_table.specs.declared.call.Call.{Call}
use Rattle.op_table.specs.declared.call.Call.TheVariants.{Load}
use Rattle.op_table.specs.declared.call.Reply.TheVariants as reply
use Rattle.op_table.specs.Call.{after_of, answer_of, CallFits}
use Rattle.place_core.specs.declared.entry.Entry.{Entry}
use Rattle.place_core.specs.declared.places.Place.TheVariants.{Lane, Parts}
use Rattle.place_core.specs.declared.places.WordOp.{WordOp}
use Rattle.place_core.specs.declared.places.WordOp.TheVariants as op
use Rattle.place_core.specs.declared.shape.Shape.{Shape}
use Rattle.place_core.specs.Cells.{left_by, value_of, IsLegal}
use Rattle.place_core.specs.Shapes.{place_of, kind_of, cells_of_shape, word_of, IsShape}
use Rattle.place_core.specs.Operations.{word_after, Replaces, IsReplaced, OpServes}

-- ---- bits of no object

-- no lane of word w has one of the n bits from p on
abbrev pub AreFree : Shape → ℕ → ℕ → ℕ → Type 0
AreFree S w p n = (o s d : ℕ) → place_of S o ≡ Some (Lane w s d) → (p + n ≤ s) ⊎ (s + d ≤ p)

abbrev pub FreeBitsAreZero : Type 0
FreeBitsAreZero = (S : Shape) → IsShape S → (H : List Entry) → IsLegal (cells_of_shape S) H → (w p n : ℕ) → AreFree S w p n → word_of S H w / 2 ^ p % 2 ^ n ≡ 0

abbrev pub FreeBitIsZero : Type 0
FreeBitIsZero = (S : Shape) → IsShape S → (H : List Entry) → IsLegal (cells_of_shape S) H → (w p : ℕ) → AreFree S w p 1 → word_of S H w / 2 ^ p % 2 ≡ 0

-- a word without a lane
abbrev pub WordWithoutLanesIsZero : Type 0
WordWithoutLanesIsZero = (S : Shape) (H : List Entry) (w : ℕ) → ((o s d : ℕ) → place_of S o ≢ Some (Lane w s d)) → word_of S H w ≡ 0

-- ---- a lane replaced

-- bits that the lane hasn't stay
abbrev pub ReplacedLeavesOtherBits : Type 0
ReplacedLeavesOtherBits = (s d new n m p q : ℕ) → IsReplaced s d new n m → (p + q ≤ s) ⊎ (s + d ≤ p) → m / 2 ^ p % 2 ^ q ≡ n / 2 ^ p % 2 ^ q

-- so a step that serves a call leaves every other lane of its word
abbrev pub StepLeavesOtherLane : Type 0
StepLeavesOtherLane = (S : Shape) → IsShape S → (H : List Entry) → IsLegal (cells_of_shape S) H → (o : ℕ) (call : Call) (done : WordOp) (serves : OpServes S o call done) → CallFits (kind_of S o) call
    → (p t e : ℕ) → place_of S p ≡ Some (Lane serves.word t e) → o ≢ p → word_after done (word_of S H serves.word) / 2 ^ t % 2 ^ e ≡ value_of (cells_of_shape S) H p

-- and every bit of no object
abbrev pub StepLeavesFreeBits : Type 0
StepLeavesFreeBits = (S : Shape) → IsShape S → (H : List Entry) → IsLegal (cells_of_shape S) H → (o : ℕ) (call : Call) (done : WordOp) (serves : OpServes S o call done) → CallFits (kind_of S o) call
    → (p n : ℕ) → AreFree S serves.word p n → word_after done (word_of S H serves.word) / 2 ^ p % 2 ^ n ≡ 0

-- ---- what an entry does to words

-- the lane's bits become what the entry leaves, and every other bit of the word stays
abbrev pub EntryReplacesBits : Type 0
EntryReplacesBits = (S : Shape) → IsShape S → (H : List Entry) → IsLegal (cells_of_shape S) H → (x : Entry) → CallFits (kind_of S x.object) x.call → (w s d : ℕ) → place_of S x.object ≡ Some (Lane w s d)
    → IsReplaced s d (left_by (kind_of S x.object) x (value_of (cells_of_shape S) H x.object)) (word_of S H w) (word_of S (H ++ x ∷ []) w)

-- the bits of every other lane stay
abbrev pub EntryLeavesOtherLane : Type 0
EntryLeavesOtherLane = (S : Shape) → IsShape S → (H : List Entry) (x : Entry) → IsLegal (cells_of_shape S) (H ++ x ∷ []) → (o w s d : ℕ) → place_of S o ≡ Some (Lane w s d) → x.object ≢ o
    → word_of S (H ++ x ∷ []) w / 2 ^ s % 2 ^ d ≡ word_of S H w / 2 ^ s % 2 ^ d

-- an entry on a lane leaves every other word
abbrev pub EntryLeavesOtherWord : Type 0
EntryLeavesOtherWord = (S : Shape) (H : List Entry) (x : Entry) (v s d w : ℕ) → place_of S x.object ≡ Some (Lane v s d) → v ≢ w → word_of S (H ++ x ∷ []) w ≡ word_of S H w

-- an entry on an object with parts leaves every word of lanes
abbrev pub PartsEntryLeavesWord : Type 0
PartsEntryLeavesWord = (S : Shape) (H : List Entry) (x : Entry) (l f n b w : ℕ) → place_of S x.object ≡ Some (Parts l f n b) → word_of S (H ++ x ∷ []) w ≡ word_of S H w

-- an entry that leaves its object's value leaves every value and every word
abbrev pub KeptValueKeepsWord : Type 0
KeptValueKeepsWord = (S : Shape) (H : List Entry) (x : Entry) → left_by (kind_of S x.object) x (value_of (cells_of_shape S) H x.object) ≡ value_of (cells_of_shape S) H x.object
    → ((o : ℕ) → value_of (cells_of_shape S) (H ++ x ∷ []) o ≡ value_of (cells_of_shape S) H o) × ((w : ℕ) → word_of S (H ++ x ∷ []) w ≡ word_of S H w)

-- a failed exchange, spurious or not
abbrev pub FailedLeavesWord : Type 0
FailedLeavesWord = (S : Shape) (H : List Entry) (x : Entry) (v : ℕ) → x.reply ≡ reply.Failed v
    → ((o : ℕ) → value_of (cells_of_shape S) (H ++ x ∷ []) o ≡ value_of (cells_of_shape S) H o) × ((w : ℕ) → word_of S (H ++ x ∷ []) w ≡ word_of S H w)

abbrev pub LoadLeavesWord : Type 0
LoadLeavesWord = (S : Shape) (H : List Entry) (x : Entry) → x.call ≡ Load
    → ((o : ℕ) → value_of (cells_of_shape S) (H ++ x ∷ []) o ≡ value_of (cells_of_shape S) H o) × ((w : ℕ) → word_of S (H ++ x ∷ []) w ≡ word_of S H w)

-- ---- a lane replaced by hand

-- the word in which the call's value was put into the lane is the word after the call's entry
abbrev pub PutMakesCall : Type 0
PutMakesCall = (S : Shape) → IsShape S → (H : List Entry) → IsLegal (cells_of_shape S) H → (x : Entry) (w s d n m : ℕ) → place_of S x.object ≡ Some (Lane w s d) → n ≡ word_of S H w
    → x.reply ≡ answer_of (kind_of S x.object) x.call (n / 2 ^ s % 2 ^ d) → Replaces s (n / 2 ^ s % 2 ^ d) (after_of (kind_of S x.object) x.call (n / 2 ^ s % 2 ^ d)) n m
    → m ≡ word_of S (H ++ x ∷ []) w

-- so a compare and exchange from the word found to that word makes the call where the word is still the one found
abbrev pub WonTryMakesCall : Type 0
WonTryMakesCall = (S : Shape) → IsShape S → (H : List Entry) → IsLegal (cells_of_shape S) H → (x : Entry) (w s d n m : ℕ) → place_of S x.object ≡ Some (Lane w s d) → word_of S H w ≡ n
    → x.reply ≡ answer_of (kind_of S x.object) x.call (n / 2 ^ s % 2 ^ d) → Replaces s (n / 2 ^ s % 2 ^ d) (after_of (kind_of S x.object) x.call (n / 2 ^ s % 2 ^ d)) n m
    → word_after (op.Cas n m) (word_of S H w) ≡ word_of S (H ++ x ∷ []) w

-- and leaves every other word that it finds
abbrev pub LostTryLeavesWord : Type 0
LostTryLeavesWord = (S : Shape) (H : List Entry) (w n m : ℕ) → word_of S H w ≢ n → word_after (op.Cas n m) (word_of S H w) ≡ word_of S H w
