-- What a call on an object does to a pass.
use Rattle.std.specs.Prelude.{◌≡◌, ℕ, ◌+◌, ◌-◌, ◌<◌, true, false, List, [], ◌∷◌, ◌++◌, length, take, replicate}
use Rattle.any_size.specs.declared.call.BlockCall.{BlockCall}
use Rattle.any_size.specs.declared.call.BlockReply.{BlockReply}
use Rattle.any_size.specs.declared.call.BlockEntry.{BlockEntry}
use Rattle.any_size.specs.declared.view.BlockStep.TheVariants as kind
use Rattle.any_size.specs.declared.view.BlockItem.{BlockItem}
use Rattle.any_size.specs.declared.view.Hold.TheVariants.{Idle, Held}
use Rattle.any_size.specs.Bytes.{Spells}
use Rattle.any_size.specs.Operations.{block_after, block_answer, does_write}
use Rattle.any_size.specs.Histories.{size_of, value_of}
use Rattle.any_size.specs.Layout.{count_of, lock_of, lock_word, first_word}
use Rattle.any_size.specs.Steps.{item, items, entry, put_more, IsSpelled}
use Rattle.any_size.specs.States.{BlocksState, BlockPassState, IsKept}

-- takes of a lock: so many that found it held, and then one that didn't
abbrev pub missed : ℕ → ℕ → List BlockItem
missed lock n = replicate n (item lock kind.Take 1)

-- and then the one that got it
abbrev pub takes : ℕ → ℕ → List BlockItem
takes lock n = missed lock n ++ item lock kind.Take 0 ∷ []

-- the steps under the lock, for a call that found v: a held for each word, a put for each word exactly where it writes, and
-- one release
pub record IsHeldTrail (b : BlocksState) (o : ℕ) (call : BlockCall) (v : List ℕ) (steps : List BlockItem) : Type 0 where
  pub read : List ℕ
  pub put : List ℕ
  pub all : length read ≡ count_of b.starts o
  pub spells : Spells (size_of b.starts o) read v
  pub writes : does_write call v ≡ true → (length put ≡ count_of b.starts o) × Spells (size_of b.starts o) put (block_after call v)
  pub leaves : does_write call v ≡ false → put ≡ []
  pub are : steps ≡ items kind.Held (first_word b.starts b.locks o) read ++ (items kind.Put (first_word b.starts b.locks o) put ++ item (lock_word (lock_of b.locks o)) kind.Release 0 ∷ [])

-- a call's steps, all on the object's own lock and words: the takes, and then those under the lock
pub record IsCallTrail (b : BlocksState) (o : ℕ) (call : BlockCall) (v : List ℕ) (misses : ℕ) (steps : List BlockItem) : Type 0 where
  pub held : List BlockItem
  pub under : IsHeldTrail b o call v held
  pub are : steps ≡ takes (lock_word (lock_of b.locks o)) misses ++ held

-- the pass made the call: its entry ends what is seen, which begins with all that was, and is its own last; the reply is that
-- of the call at the value that the history before the entry leaves; and nothing else of the pass changed
pub record MakesCall (b : BlocksState) (o : ℕ) (call : BlockCall) (misses : ℕ) (p : BlockPassState) (r : BlockReply) (q : BlockPassState) : Type 0 where
  pub between : List BlockEntry
  pub steps : List BlockItem
  pub now : q ≡ record p { seen = (p.seen ++ between) ++ entry p.number o call r ∷ []; mine = p.mine ++ entry p.number o call r ∷ []; trail = p.trail ++ steps }
  pub reply : r ≡ block_answer call (value_of p.starts (p.seen ++ between) o)
  pub trail : IsCallTrail b o call (value_of p.starts (p.seen ++ between) o) misses steps
  pub kept : IsKept q

-- after some takes that found the lock held
pub record MakesSome (b : BlocksState) (o : ℕ) (call : BlockCall) (p : BlockPassState) (r : BlockReply) (q : BlockPassState) : Type 0 where
  pub misses : ℕ
  pub made : MakesCall b o call misses p r q

-- the one take found the lock held, and nothing else was done
pub record FindsHeld (b : BlocksState) (o : ℕ) (p q : BlockPassState) : Type 0 where
  pub now : q ≡ record p { trail = p.trail ++ item (lock_word (lock_of b.locks o)) kind.Take 1 ∷ [] }
  pub kept : IsKept q

-- ---- parts of a call

-- some takes found the lock held
pub record Trying (b : BlocksState) (o : ℕ) (p q : BlockPassState) : Type 0 where
  pub misses : ℕ
  pub now : q ≡ record p { trail = p.trail ++ missed (lock_word (lock_of b.locks o)) misses }

-- the lock was taken
pub record Took (b : BlocksState) (o misses : ℕ) (p q : BlockPassState) : Type 0 where
  pub now : q ≡ record p { trail = p.trail ++ takes (lock_word (lock_of b.locks o)) misses; hold = Held o [] [] }

-- it was taken, after some takes that found it held
pub record TookLast (b : BlocksState) (o : ℕ) (p q : BlockPassState) : Type 0 where
  pub misses : ℕ
  pub took : Took b o misses p q

-- the first i words were read, into eight
pub record Reading (b : BlocksState) (o : ℕ) (p : BlockPassState) (i : ℕ) (eight : List ℕ) (q : BlockPassState) : Type 0 where
  pub read : List ℕ
  pub count : length read ≡ i
  pub are : eight ≡ read ++ replicate (8 - i) 0
  pub now : q ≡ record p { trail = p.trail ++ items kind.Held (first_word b.starts b.locks o) read; hold = Held o read [] }
  pub told : i ≡ count_of b.starts o → IsSpelled b.starts o read

-- all were, and they spell v
pub record ReadsAll (b : BlocksState) (o : ℕ) (p : BlockPassState) (v : List ℕ) (q : BlockPassState) : Type 0 where
  pub read : List ℕ
  pub all : length read ≡ count_of b.starts o
  pub spells : Spells (size_of b.starts o) read v
  pub now : q ≡ record p { trail = p.trail ++ items kind.Held (first_word b.starts b.locks o) read; hold = Held o read [] }

-- these words were written
abbrev pub Putting : BlocksState → ℕ → BlockPassState → List ℕ → BlockPassState → Type 0
Putting b o p put q = q ≡ record p { trail = p.trail ++ items kind.Put (first_word b.starts b.locks o) put; hold = put_more p.hold put }

-- all were, and they spell v
pub record PutsAll (b : BlocksState) (o : ℕ) (p : BlockPassState) (v : List ℕ) (q : BlockPassState) : Type 0 where
  pub put : List ℕ
  pub all : length put ≡ count_of b.starts o
  pub spells : Spells (size_of b.starts o) put v
  pub now : Putting b o p put q

-- the call was made under the lock that was held
pub record MakesHeld (b : BlocksState) (o : ℕ) (call : BlockCall) (p : BlockPassState) (r : BlockReply) (q : BlockPassState) : Type 0 where
  pub between : List BlockEntry
  pub steps : List BlockItem
  pub now : q ≡ record p { seen = (p.seen ++ between) ++ entry p.number o call r ∷ []; mine = p.mine ++ entry p.number o call r ∷ []; trail = p.trail ++ steps; hold = Idle }
  pub reply : r ≡ block_answer call (value_of p.starts (p.seen ++ between) o)
  pub trail : IsHeldTrail b o call (value_of p.starts (p.seen ++ between) o) steps
  pub kept : IsKept q
