-- What a call on an object does, and what it replies.
use Rattle.std.specs.Prelude.{◌≡◌, ℕ, Bool, true, false, ◌&&◌, if◌then◌else◌, List, length}
use Rattle.std.specs.Str.{bytes_eq}
use Rattle.any_size.specs.declared.call.BlockCall.{BlockCall}
use Rattle.any_size.specs.declared.call.BlockCall.TheVariants.{Load, Store, Exchange, CompareExchange}
use Rattle.any_size.specs.declared.call.BlockReply.{BlockReply}
use Rattle.any_size.specs.declared.call.BlockReply.TheVariants as reply

-- the value that a call leaves
abbrev pub block_after : BlockCall → List ℕ → List ℕ
block_after Load v = v
block_after (Store a) v = a
block_after (Exchange a) v = a
block_after (CompareExchange e n) v = if bytes_eq v e then n else v

-- its reply
abbrev pub block_answer : BlockCall → List ℕ → BlockReply
block_answer Load v = reply.Old v
block_answer (Store a) v = reply.Unit
block_answer (Exchange a) v = reply.Old v
block_answer (CompareExchange e n) v = if bytes_eq v e then reply.Done v else reply.Failed v

-- its operands have n bytes
abbrev pub OperandsFit : ℕ → BlockCall → Type 0
OperandsFit n Load = Unit {0}
OperandsFit n (Store a) = length a ≡ n
OperandsFit n (Exchange a) = length a ≡ n
OperandsFit n (CompareExchange e a) = (length e ≡ n) × (length a ≡ n)

-- it writes: it isn't a load, nor an exchange that fails
abbrev pub does_write : BlockCall → List ℕ → Bool
does_write Load v = false
does_write (Store a) v = true
does_write (Exchange a) v = true
does_write (CompareExchange e n) v = bytes_eq v e
