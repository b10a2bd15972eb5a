-- Which step on a word makes a whole call on a lane, and how each call is made.
use Rattle.std.specs.Prelude.{◌≡◌, ℕ, ◌+◌, ◌-◌, ◌*◌, ◌/◌, ◌%◌, ◌^◌, ◌==◌, Bool, true, not, ◌&&◌, if◌then◌else◌, Option, Some, None, bit_and, bit_or, bit_xor, min, max}
use prog.Atomic.{either}
use Rattle.op_table.specs.declared.kind.Kind.{Kind}
use Rattle.op_table.specs.declared.order.StepSet.{StepSet}
use Rattle.op_table.specs.declared.call.Call.{Call}
use Rattle.op_table.specs.declared.call.Call.TheVariants.{Load, Store, Swap, Cas, CasWeak, Add, Sub, And, Nand, Or, Xor, Max, Min, Not, Neg, BitSet, BitClear, BitToggle, AddFetch, SubFetch, AndFetch, NandFetch, OrFetch, XorFetch}
use Rattle.place_core.specs.declared.places.Place.{Place}
use Rattle.place_core.specs.declared.places.Place.TheVariants.{Lane, Parts}
use Rattle.place_core.specs.declared.places.WordOp.{WordOp}
use Rattle.place_core.specs.declared.places.WordOp.TheVariants as op
use Rattle.place_core.specs.declared.places.Path.{Path}
use Rattle.place_core.specs.declared.places.Path.TheVariants.{One, Loop, Locked}
use Rattle.place_core.specs.declared.shape.Shape.{Shape}
use Rattle.place_core.specs.Shapes.{place_of, kind_of, is_sole}

-- the word n after a step
abbrev pub word_after : WordOp → ℕ → ℕ
word_after op.Load n = n
word_after (op.Store k) n = k
word_after (op.Swap k) n = k
word_after (op.Cas e k) n = either (n == e) k n
word_after (op.Add k) n = (n + k) % 2 ^ 64
word_after (op.Sub k) n = (n + (2 ^ 64 - k)) % 2 ^ 64
word_after (op.And k) n = bit_and n k
word_after (op.Or k) n = bit_or n k
word_after (op.Xor k) n = bit_xor n k
word_after (op.Max k) n = max n k
word_after (op.Min k) n = min n k

-- word m is word n with `new` in a lane: of d bits, the lowest of them s
pub record IsReplaced (s d new n m : ℕ) : Type 0 where
  pub lane : m / 2 ^ s % 2 ^ d ≡ new
  pub below : m % 2 ^ s ≡ n % 2 ^ s
  pub above : m / 2 ^ (s + d) ≡ n / 2 ^ (s + d)

-- the same of a lane that had the value v, in one equation
abbrev pub Replaces : ℕ → ℕ → ℕ → ℕ → ℕ → Type 0
Replaces s v new n m = m + v * 2 ^ s ≡ n + new * 2 ^ s

-- a lane with lowest bit s and d bits ends with the word
abbrev pub is_top : ℕ → ℕ → Bool
is_top s d = s + d == 64

-- a word with ones outside the lane, and zeros in it
abbrev pub outside : ℕ → ℕ → ℕ
outside s d = 2 ^ 64 - 1 - (2 ^ d - 1) * 2 ^ s

abbrev pub only_if : Bool → WordOp → Option WordOp
only_if b o = if b then Some o else None

-- the step that makes the call on a lane: of this kind, with lowest bit s and d bits, sole in its word or not
abbrev pub op_for : Kind → ℕ → ℕ → Bool → Call → Option WordOp
op_for k s d sole Load = Some op.Load
op_for k s d sole (Store a) = only_if sole (op.Store (a * 2 ^ s))
op_for k s d sole (Swap a) = only_if sole (op.Swap (a * 2 ^ s))
op_for k s d sole (Cas e n) = only_if sole (op.Cas (e * 2 ^ s) (n * 2 ^ s))
op_for k s d sole (CasWeak e n) = only_if sole (op.Cas (e * 2 ^ s) (n * 2 ^ s))
op_for k s d sole (Add a q) = only_if (is_top s d) (op.Add (a * 2 ^ s))
op_for k s d sole (Sub a q) = only_if (is_top s d) (op.Sub (a * 2 ^ s))
op_for k s d sole (And a q) = Some (op.And (a * 2 ^ s + outside s d))
op_for k s d sole (Nand a) = None
op_for k s d sole (Or a q) = Some (op.Or (a * 2 ^ s))
op_for k s d sole (Xor a q) = Some (op.Xor (a * 2 ^ s))
op_for k s d sole (Max a) = only_if (sole && is_top s d && not k.signed) (op.Max (a * 2 ^ s))
op_for k s d sole (Min a) = only_if (sole && is_top s d && not k.signed) (op.Min (a * 2 ^ s))
op_for k s d sole (Not q) = Some (op.Xor ((2 ^ d - 1) * 2 ^ s))
op_for k s d sole (Neg q) = None
op_for k s d sole (BitSet p) = Some (op.Or (2 ^ (s + p % d)))
op_for k s d sole (BitClear p) = Some (op.And (2 ^ 64 - 1 - 2 ^ (s + p % d)))
op_for k s d sole (BitToggle p) = Some (op.Xor (2 ^ (s + p % d)))
op_for k s d sole (AddFetch a) = only_if (is_top s d) (op.Add (a * 2 ^ s))
op_for k s d sole (SubFetch a) = only_if (is_top s d) (op.Sub (a * 2 ^ s))
op_for k s d sole (AndFetch a) = Some (op.And (a * 2 ^ s + outside s d))
op_for k s d sole (NandFetch a) = None
op_for k s d sole (OrFetch a) = Some (op.Or (a * 2 ^ s))
op_for k s d sole (XorFetch a) = Some (op.Xor (a * 2 ^ s))

-- the object has a lane, and this step makes the call there
pub record OpServes (S : Shape) (o : ℕ) (call : Call) (done : WordOp) : Type 0 where
  pub word : ℕ
  pub shift : ℕ
  pub width : ℕ
  pub lane : place_of S o ≡ Some (Lane word shift width)
  pub serves : op_for (kind_of S o) shift width (is_sole S word) call ≡ Some done

-- a word of the target has the step: load, store, and compare and exchange always
abbrev pub has_step : StepSet → WordOp → Bool
has_step steps op.Load = true
has_step steps (op.Store k) = true
has_step steps (op.Swap k) = steps.swap
has_step steps (op.Cas e k) = true
has_step steps (op.Add k) = steps.add
has_step steps (op.Sub k) = steps.add
has_step steps (op.And k) = steps.bits
has_step steps (op.Or k) = steps.bits
has_step steps (op.Xor k) = steps.bits
has_step steps (op.Max k) = steps.order
has_step steps (op.Min k) = steps.order

-- one step where there is one and the target has it, else a loop
abbrev pub path_by : StepSet → Option WordOp → Path
path_by steps None = Loop
path_by steps (Some done) = if has_step steps done then One done else Loop

abbrev pub path_at : Shape → Kind → Call → Option Place → Path
path_at S k call None = Locked
path_at S k call (Some (Lane w s d)) = path_by S.steps (op_for k s d (is_sole S w) call)
path_at S k call (Some (Parts l f n b)) = Locked

-- how a call on object o is made
abbrev pub plan_of : Shape → ℕ → Call → Path
plan_of S o call = path_at S (kind_of S o) call (place_of S o)
