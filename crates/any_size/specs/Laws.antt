-- Laws of histories of blocks, as the module `laws` proves them.
use Rattle.std.specs.Prelude.{◌≡◌, ◌⊎◌, ℕ, true, List, [], ◌∷◌, ◌++◌, Option, Some, None}
use Rattle.any_size.specs.declared.call.BlockCall.{BlockCall}
use Rattle.any_size.specs.declared.call.BlockCall.TheVariants.{Load, Store, Exchange, CompareExchange}
use Rattle.any_size.specs.declared.call.BlockReply.{BlockReply}
use Rattle.any_size.specs.declared.call.BlockReply.TheVariants as reply
use Rattle.any_size.specs.declared.call.BlockEntry.{BlockEntry}
use Rattle.any_size.specs.Operations.{does_write}
use Rattle.any_size.specs.Histories.{start_at, value_of, IsLawful}

-- the bytes that a reply has
abbrev pub bytes_in : BlockReply → Option (List ℕ)
bytes_in reply.Unit = None
bytes_in (reply.Old v) = Some v
bytes_in (reply.Done v) = Some v
bytes_in (reply.Failed v) = Some v

-- the bytes that a call puts where it writes
abbrev pub put_in : BlockCall → Option (List ℕ)
put_in Load = None
put_in (Store a) = Some a
put_in (Exchange a) = Some a
put_in (CompareExchange e n) = Some n

-- one entry of the history, on the object, wrote these bytes, all of them
pub record IsWrittenBy (starts : List (List ℕ)) (G : List BlockEntry) (o : ℕ) (v : List ℕ) : Type 0 where
  pub before : List BlockEntry
  pub entry : BlockEntry
  pub rest : List BlockEntry
  pub split : G ≡ before ++ entry ∷ rest
  pub object : entry.object ≡ o
  pub writes : does_write entry.call (value_of starts before o) ≡ true
  pub put : put_in entry.call ≡ Some v

-- they are those of the object's start, or of one writing entry
abbrev pub IsWhole : List (List ℕ) → List BlockEntry → ℕ → List ℕ → Type 0
IsWhole starts G o v = (v ≡ start_at starts o) ⊎ IsWrittenBy starts G o v

-- a value is never torn
abbrev pub ValueIsWhole : Type 0
ValueIsWhole = (starts : List (List ℕ)) (G : List BlockEntry) (o : ℕ) → IsWhole starts G o (value_of starts G o)

-- nor is a reply: its bytes are, all of them, those of the start or of one writing entry before it
abbrev pub ReplyIsWhole : Type 0
ReplyIsWhole = (starts : List (List ℕ)) (G : List BlockEntry) (x : BlockEntry) (v : List ℕ) → IsLawful starts G x → bytes_in x.reply ≡ Some v → IsWhole starts G x.object v
