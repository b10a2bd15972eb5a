-- The rows of the table: it stays within a kind's values, and each call is an operation of the kind's class.
use Rattle.std.proofs.Common.{◌≡◌, ◌≢◌, ◌⊎◌, Bool, true, false, cond, eqb, ltb, ℕ, ◌+◌, ◌-◌, ◌%◌, ◌<◌, arith, mod-lt, inl, inr, refl, true≢false}
use Rattle.std.proofs.lemmas.Nat.{or_lt, xor_lt, and_le_l, pow_below, pow_pos}
use Rattle.op_table.specs.declared.kind.Kind.{Kind}
use Rattle.op_table.specs.declared.kind.Width.{Width}
use Rattle.op_table.specs.declared.kind.Width.TheVariants.{W1, W8, W16, W32, W64, W128}
use Rattle.op_table.specs.declared.kind.Class.{Class}
use Rattle.op_table.specs.declared.kind.Class.TheVariants as class
use Rattle.op_table.specs.declared.call.Call.TheVariants as call
use Rattle.op_table.specs.declared.words.Operation.TheVariants as op
use Rattle.op_table.specs.declared.call.Call.TheVariants.{Load, Store, Swap, Cas, CasWeak, Add, Sub, And, Nand, Or, Xor, Max, Min, Not, Neg, BitSet, BitClear, BitToggle, AddFetch, SubFetch, AndFetch, NandFetch, OrFetch, XorFetch}
use Rattle.op_table.specs.declared.call.Reply.TheVariants as reply
use Rattle.op_table.specs.Kind.{bits_of, values_of}
use Rattle.op_table.specs.Call.{rank_of, bit_place, unless_quiet, ReplyFits}
use Rattle.op_table.specs.Words.{has_operation, loud_or_quiet, sum_operation}
use Rattle.op_table.specs.Laws.{AfterFits, AnswerFits, CallHasOperation}

one_of : (b : Bool) (x y most : ℕ) → x < most → y < most → cond b x y < most
one_of true x y most p q = p
one_of false x y most p q = q

modulo : (kind : Kind) (n : ℕ) → n % values_of kind < values_of kind
modulo kind n = mod-lt n (pow_pos (bits_of kind.width))

some_bits : (width : Width) → 0 < bits_of width
some_bits W1 = omega arith
some_bits W8 = omega arith
some_bits W16 = omega arith
some_bits W32 = omega arith
some_bits W64 = omega arith
some_bits W128 = omega arith

pub place_fits : (kind : Kind) (p : ℕ) → bit_place kind p < values_of kind
place_fits kind p = pow_below (p % bits_of kind.width) (bits_of kind.width) (mod-lt p (some_bits kind.width))

pub after_fits : AfterFits
after_fits kind Load v is fits small = small
after_fits kind (Store a) v is fits small = fits
after_fits kind (Swap a) v is fits small = fits
after_fits kind (Cas e n) v is fits small = one_of (eqb v e) n v (values_of kind) fits.1 small
after_fits kind (CasWeak e n) v is fits small = one_of (eqb v e) n v (values_of kind) fits.1 small
after_fits kind (Add a q) v is fits small = modulo kind (v + a)
after_fits kind (Sub a q) v is fits small = modulo kind (v + (values_of kind - a))
after_fits kind (And a q) v is fits small = omega (arith, and_le_l v a)
after_fits kind (Nand a) v is fits small = omega arith
after_fits kind (Or a q) v is fits small = or_lt (bits_of kind.width) v a small fits.0
after_fits kind (Xor a q) v is fits small = xor_lt (bits_of kind.width) v a small fits.0
after_fits kind (Max a) v is fits small = one_of (ltb (rank_of kind v) (rank_of kind a)) a v (values_of kind) fits.0 small
after_fits kind (Min a) v is fits small = one_of (ltb (rank_of kind a) (rank_of kind v)) a v (values_of kind) fits.0 small
after_fits kind (Not q) v is fits small = omega arith
after_fits kind (Neg q) v is fits small = modulo kind (values_of kind - v)
after_fits kind (BitSet p) v is fits small = or_lt (bits_of kind.width) v (bit_place kind p) small (place_fits kind p)
after_fits kind (BitClear p) v is fits small = omega arith
after_fits kind (BitToggle p) v is fits small = xor_lt (bits_of kind.width) v (bit_place kind p) small (place_fits kind p)
after_fits kind (AddFetch a) v is fits small = modulo kind (v + a)
after_fits kind (SubFetch a) v is fits small = modulo kind (v + (values_of kind - a))
after_fits kind (AndFetch a) v is fits small = omega (arith, and_le_l v a)
after_fits kind (NandFetch a) v is fits small = omega arith
after_fits kind (OrFetch a) v is fits small = or_lt (bits_of kind.width) v a small fits.0
after_fits kind (XorFetch a) v is fits small = xor_lt (bits_of kind.width) v a small fits.0

quiet_fits : (kind : Kind) (q : Bool) (v : ℕ) → v < values_of kind → ReplyFits kind (unless_quiet q v)
quiet_fits kind true v small = tt
quiet_fits kind false v small = small

exchange_fits : (kind : Kind) (made : Bool) (v : ℕ) → v < values_of kind → ReplyFits kind (cond made (reply.Done v) (reply.Failed v))
exchange_fits kind true v small = small
exchange_fits kind false v small = small

pub answer_fits : AnswerFits
answer_fits kind Load v is fits small = small
answer_fits kind (Store a) v is fits small = tt
answer_fits kind (Swap a) v is fits small = small
answer_fits kind (Cas e n) v is fits small = exchange_fits kind (eqb v e) v small
answer_fits kind (CasWeak e n) v is fits small = exchange_fits kind (eqb v e) v small
answer_fits kind (Add a q) v is fits small = quiet_fits kind q v small
answer_fits kind (Sub a q) v is fits small = quiet_fits kind q v small
answer_fits kind (And a q) v is fits small = quiet_fits kind q v small
answer_fits kind (Nand a) v is fits small = small
answer_fits kind (Or a q) v is fits small = quiet_fits kind q v small
answer_fits kind (Xor a q) v is fits small = quiet_fits kind q v small
answer_fits kind (Max a) v is fits small = small
answer_fits kind (Min a) v is fits small = small
answer_fits kind (Not q) v is fits small = quiet_fits kind q v small
answer_fits kind (Neg q) v is fits small = quiet_fits kind q v small
answer_fits kind (BitSet p) v is fits small = tt
answer_fits kind (BitClear p) v is fits small = tt
answer_fits kind (BitToggle p) v is fits small = tt
answer_fits kind (AddFetch a) v is fits small = after_fits kind (AddFetch a) v is fits small
answer_fits kind (SubFetch a) v is fits small = after_fits kind (SubFetch a) v is fits small
answer_fits kind (AndFetch a) v is fits small = after_fits kind (AndFetch a) v is fits small
answer_fits kind (NandFetch a) v is fits small = after_fits kind (NandFetch a) v is fits small
answer_fits kind (OrFetch a) v is fits small = after_fits kind (OrFetch a) v is fits small
answer_fits kind (XorFetch a) v is fits small = after_fits kind (XorFetch a) v is fits small

-- ---- calls

sum_has : (c : Class) (q : Bool) → (c ≡ class.Int) ⊎ ((c ≡ class.Ptr) × (q ≡ false)) → (has_operation c (sum_operation c q op.FetchAdd op.Add op.FetchByteAdd) ≡ true) × (has_operation c (sum_operation c q op.FetchSub op.Sub op.FetchByteSub) ≡ true)
sum_has class.Int true fits = (refl, refl)
sum_has class.Int false fits = (refl, refl)
sum_has class.Ptr q fits = (refl, refl)
sum_has class.Bool q (inl is) = absurd cc
sum_has class.Bool q (inr is) = absurd (no_class is.0)
  where
    no_class : class.Bool ≡ class.Ptr → ⊥
    no_class e = cc

logic_has : (c : Class) (q : Bool) → (c ≡ class.Ptr → q ≡ false) → (has_operation c (loud_or_quiet q op.FetchAnd op.And) ≡ true) × (has_operation c (loud_or_quiet q op.FetchOr op.Or) ≡ true) × (has_operation c (loud_or_quiet q op.FetchXor op.Xor) ≡ true)
logic_has class.Int true fits = (refl, refl, refl)
logic_has class.Int false fits = (refl, refl, refl)
logic_has class.Bool true fits = (refl, refl, refl)
logic_has class.Bool false fits = (refl, refl, refl)
logic_has class.Ptr false fits = (refl, refl, refl)
logic_has class.Ptr true fits = absurd (true≢false (fits refl))

each_has : (c : Class) → (has_operation c op.Load ≡ true) × (has_operation c op.Store ≡ true) × (has_operation c op.Swap ≡ true) × (has_operation c op.CompareExchange ≡ true) × (has_operation c op.CompareExchangeWeak ≡ true)
each_has class.Int = (refl, refl, refl, refl, refl)
each_has class.Bool = (refl, refl, refl, refl, refl)
each_has class.Ptr = (refl, refl, refl, refl, refl)

not_has : (c : Class) (q : Bool) → c ≢ class.Ptr → (has_operation c (loud_or_quiet q op.FetchNot op.Not) ≡ true) × (has_operation c op.FetchNand ≡ true)
not_has class.Int true fits = (refl, refl)
not_has class.Int false fits = (refl, refl)
not_has class.Bool true fits = (refl, refl)
not_has class.Bool false fits = (refl, refl)
not_has class.Ptr q fits = absurd (fits refl)

bit_has : (c : Class) → c ≢ class.Bool → (has_operation c op.BitSet ≡ true) × (has_operation c op.BitClear ≡ true) × (has_operation c op.BitToggle ≡ true)
bit_has class.Int fits = (refl, refl, refl)
bit_has class.Ptr fits = (refl, refl, refl)
bit_has class.Bool fits = absurd (fits refl)

int_has : (c : Class) (q : Bool) → c ≡ class.Int → (has_operation c op.FetchMax ≡ true) × (has_operation c op.FetchMin ≡ true) × (has_operation c (loud_or_quiet q op.FetchNeg op.Neg) ≡ true)
int_has class.Int true fits = (refl, refl, refl)
int_has class.Int false fits = (refl, refl, refl)
int_has class.Bool q fits = absurd cc
int_has class.Ptr q fits = absurd cc

new_sum_has : (c : Class) → c ≡ class.Int → (has_operation c op.AddFetch ≡ true) × (has_operation c op.SubFetch ≡ true)
new_sum_has class.Int is = (refl, refl)
new_sum_has class.Bool is = absurd cc
new_sum_has class.Ptr is = absurd cc

new_logic_has : (c : Class) → c ≢ class.Ptr → (has_operation c op.AndFetch ≡ true) × (has_operation c op.NandFetch ≡ true) × (has_operation c op.OrFetch ≡ true) × (has_operation c op.XorFetch ≡ true)
new_logic_has class.Int fits = (refl, refl, refl, refl)
new_logic_has class.Bool fits = (refl, refl, refl, refl)
new_logic_has class.Ptr fits = absurd (fits refl)

pub call_has_operation : CallHasOperation
call_has_operation kind call.Load is fits = (each_has kind.class).0
call_has_operation kind (call.Store a) is fits = (each_has kind.class).1
call_has_operation kind (call.Swap a) is fits = (each_has kind.class).2
call_has_operation kind (call.Cas e n) is fits = (each_has kind.class).3
call_has_operation kind (call.CasWeak e n) is fits = (each_has kind.class).4
call_has_operation kind (call.Add a q) is fits = (sum_has kind.class q fits.1).0
call_has_operation kind (call.Sub a q) is fits = (sum_has kind.class q fits.1).1
call_has_operation kind (call.And a q) is fits = (logic_has kind.class q fits.1).0
call_has_operation kind (call.Nand a) is fits = (not_has kind.class false fits.1).1
call_has_operation kind (call.Or a q) is fits = (logic_has kind.class q fits.1).1
call_has_operation kind (call.Xor a q) is fits = (logic_has kind.class q fits.1).2
call_has_operation kind (call.Max a) is fits = (int_has kind.class false fits.1).0
call_has_operation kind (call.Min a) is fits = (int_has kind.class false fits.1).1
call_has_operation kind (call.Not q) is fits = (not_has kind.class q fits).0
call_has_operation kind (call.Neg q) is fits = (int_has kind.class q fits).2
call_has_operation kind (call.BitSet p) is fits = (bit_has kind.class fits).0
call_has_operation kind (call.BitClear p) is fits = (bit_has kind.class fits).1
call_has_operation kind (call.BitToggle p) is fits = (bit_has kind.class fits).2
call_has_operation kind (call.AddFetch a) is fits = (new_sum_has kind.class fits.1).0
call_has_operation kind (call.SubFetch a) is fits = (new_sum_has kind.class fits.1).1
call_has_operation kind (call.AndFetch a) is fits = (new_logic_has kind.class fits.1).0
call_has_operation kind (call.NandFetch a) is fits = (new_logic_has kind.class fits.1).1
call_has_operation kind (call.OrFetch a) is fits = (new_logic_has kind.class fits.1).2
call_has_operation kind (call.XorFetch a) is fits = (new_logic_has kind.class fits.1).3
