-- What each step tells its caller.
use Rattle.std.specs.Prelude.{◌≡◌, ◌≢◌, ℕ, ◌+◌, ◌<◌, ◌==◌, if◌then◌else◌, List, [], ◌∷◌, ◌++◌, length}
use Rattle.atomic_table.specs.Table.{Me, Step}
use Rattle.place_core.specs.Passes
use Rattle.any_size.specs.declared.call.BlockCall.{BlockCall}
use Rattle.any_size.specs.declared.call.BlockCall.TheVariants.{Load}
use Rattle.any_size.specs.declared.call.BlockReply.{BlockReply}
use Rattle.any_size.specs.declared.call.BlockEntry.{BlockEntry}
use Rattle.any_size.specs.declared.view.BlockStep.{BlockStep}
use Rattle.any_size.specs.declared.view.BlockStep.TheVariants as kind
use Rattle.any_size.specs.declared.view.BlockItem.{BlockItem}
use Rattle.any_size.specs.declared.view.BlockRole.TheVariants as role
use Rattle.any_size.specs.declared.view.Beside.TheVariants as beside
use Rattle.any_size.specs.declared.view.Hold.{Hold}
use Rattle.any_size.specs.declared.view.Hold.TheVariants.{Idle, Held}
use Rattle.any_size.specs.declared.view.BlockEnded.{BlockEnded}
use Rattle.any_size.specs.declared.view.BlockView.{BlockView}
use Rattle.any_size.specs.Bytes.{Spells}
use Rattle.any_size.specs.Operations.{block_after, block_answer}
use Rattle.any_size.specs.Histories.{size_of, value_of, IsLegal, caller_of, entries_by}
use Rattle.any_size.specs.Layout.{count_of}
use Rattle.any_size.specs.Rule.{number_of_ended, entries_of_ended, held_now}

-- a seat of the table, with its view
abbrev pub Seated : Type 0
Seated = Me (Unit {0}) BlockView

-- of the step, the seat before, the number, and the seat after
abbrev pub Told : Type 1
Told = Step (Unit {0}) → Seated → ℕ → Seated → Type 0

-- the kinds of steps that no call makes
abbrev pub tells_nothing : Told
tells_nothing st m n w = Unit {0}

-- ---- views after a step

-- a step: the word, its kind, and the number
abbrev pub item : ℕ → BlockStep → ℕ → BlockItem
item word k n = record { word = word; kind = k; number = n }

-- an entry of the history
abbrev pub entry : ℕ → ℕ → BlockCall → BlockReply → BlockEntry
entry c o call r = record { caller = c; object = o; call = call; reply = r }

-- with one more step, and another call in flight
abbrev pub moved : BlockView → BlockItem → Hold → BlockView
moved v i f = record v { trail = v.trail ++ i ∷ []; hold = f }

-- with an entry at the end of all that was seen, and one more step
abbrev pub grown : BlockView → List BlockEntry → BlockEntry → BlockItem → BlockView
grown v log x i = record v { seen = log ++ x ∷ []; mine = v.mine ++ x ∷ []; trail = v.trail ++ i ∷ []; hold = Idle; beside = beside.Nobody }

-- a take that found n holds the lock where n is 0
abbrev pub taken : ℕ → ℕ → Hold
taken o n = if n == 0 then Held o [] [] else Idle

-- more words were read, and more were written
abbrev pub read_more : Hold → List ℕ → Hold
read_more Idle ns = Idle
read_more (Held o read put) ns = Held o (read ++ ns) put

-- more words were written
abbrev pub put_more : Hold → List ℕ → Hold
put_more Idle ns = Idle
put_more (Held o read put) ns = Held o read (put ++ ns)

-- steps of a kind, one on each word from one on
abbrev pub items : BlockStep → ℕ → List ℕ → List BlockItem
items k word [] = []
items k word (n ∷ ns) = item word k n ∷ items k (word + 1) ns

-- ---- what a pass knows by itself

-- the root knows of each number that it gave whether its pass ended, and of one that did all entries
abbrev pub IsRootSound : List BlockEntry → ℕ → List BlockEnded → Type 0
IsRootSound seen given ended = Passes.IsRootSound caller_of number_of_ended entries_of_ended seen given ended

-- what it has seen is legal, and its entries there are its own; the root knows all callers, and all that ended
pub record IsSoundView (v : BlockView) : Type 0 where
  pub role : v.role ≡ role.Pass
  pub legal : IsLegal v.starts v.seen
  pub own : entries_by v.seen v.number ≡ v.mine
  pub root : v.number ≡ 0 → IsRootSound v.seen v.given v.ended

-- ---- what the steps tell

-- all words of the object were read, and they spell a value
pub record IsSpelled (starts : List (List ℕ)) (o : ℕ) (read : List ℕ) : Type 0 where
  pub value : List ℕ
  pub spells : Spells (size_of starts o) read value

-- where these are all words of the object in flight, they spell a value
abbrev pub TellsValue : List (List ℕ) → Hold → Type 0
TellsValue starts Idle = Unit {0}
TellsValue starts (Held o read put) = length read ≡ count_of starts o → IsSpelled starts o read

-- the step appended the entry to what others had made between, and v was the value of its object before it
pub record Grows (m : BlockView) (x : BlockEntry) (i : BlockItem) (v : List ℕ) (w : BlockView) : Type 0 where
  pub between : List BlockEntry
  pub now : w ≡ grown m (m.seen ++ between) x i
  pub value_is : value_of m.starts (m.seen ++ between) x.object ≡ v
  pub sound : IsSoundView w

-- what a take and a release are asked for: the object, the call, and the value that was read
pub record Asked : Type 0 where
  pub object : ℕ
  pub call : BlockCall
  pub value : List ℕ

-- a step is asked for the object alone
abbrev pub asked_object : ℕ → Asked
asked_object o = record { object = o; call = Load; value = [] }

-- a step is asked for the call and the value that was read
abbrev pub asked_value : ℕ → BlockCall → List ℕ → Asked
asked_value o call v = record { object = o; call = call; value = v }

-- a take found 0 or 1
abbrev pub take_tells : Asked → ℕ → Seated → ℕ → Seated → Type 0
take_tells a word m n w = (w.1 ≡ m.1) × (n < 2) × (w.0 ≡ moved m.0 (item word kind.Take n) (taken a.object n))

-- the same of the step as the table has it
abbrev pub take_told : Asked → Told
take_told a st m n w = take_tells a st.word m n w

-- a word was read under the lock
abbrev pub held_tells : ℕ → Seated → ℕ → Seated → Type 0
held_tells word m n w = (w.1 ≡ m.1) × (w.0 ≡ moved m.0 (item word kind.Held n) (read_more m.0.hold (n ∷ []))) × TellsValue m.0.starts (read_more m.0.hold (n ∷ []))

-- the same of the step as the table has it
abbrev pub held_told : Told
held_told st m n w = held_tells st.word m n w

-- a word was written
abbrev pub put_tells : ℕ → Seated → ℕ → Seated → Type 0
put_tells word m n w = (w.1 ≡ m.1) × (w.0 ≡ moved m.0 (item word kind.Put n) (put_more m.0.hold (n ∷ [])))

-- the same of the step as the table has it
abbrev pub put_told : Told
put_told st m n w = put_tells st.word m n w

-- the lock was given up, which made the entry
abbrev pub release_tells : Asked → ℕ → Seated → Seated → Type 0
release_tells a word m w = (w.1 ≡ m.1) × Grows m.0 (entry m.0.number a.object a.call (block_answer a.call a.value)) (item word kind.Release 0) a.value w.0

-- the same of the step as the table has it
abbrev pub release_told : Asked → Told
release_told a st m n w = release_tells a st.word m w

-- ---- conditions

-- the object's lock is held, i words were read, and nothing was written
abbrev pub HoldsClean : ℕ → ℕ → Hold → Type 0
HoldsClean o i Idle = ⊥
HoldsClean o i (Held p read put) = (p ≡ o) × (length read ≡ i) × (put ≡ [])

-- all n words were read, and the first i were written
abbrev pub HoldsRead : ℕ → ℕ → ℕ → Hold → Type 0
HoldsRead o n i Idle = ⊥
HoldsRead o n i (Held p read put) = (p ≡ o) × (length read ≡ n) × (length put ≡ i)

-- all n words were read, which spell v, a value of size bytes; and as they are now they spell what the call leaves of it
abbrev pub MayRelease : ℕ → ℕ → ℕ → BlockCall → List ℕ → Hold → Type 0
MayRelease o n size call v Idle = ⊥
MayRelease o n size call v (Held p read put) = (p ≡ o) × (length read ≡ n) × Spells size read v × Spells size (held_now read put) (block_after call v)
