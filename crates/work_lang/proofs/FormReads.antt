-- What a form reads, where the operands that it asks for were read; and that the operands of a call fit.
use Rattle.std.proofs.Common.{◌≡◌, ℕ, ◌<◌, Some, Result, Ok, Err, ap, refl, sym, ◌∙◌}
use Rattle.std.specs.Prelude.{IsErrAnd}
use Rattle.line_words.specs.Steps.{Steps}
use Rattle.line_words.specs.Cursor.{Cursor}
use Rattle.op_table.specs.declared.kind.Kind.{Kind}
use Rattle.op_table.specs.declared.call.Call.{Call}
use Rattle.op_table.specs.declared.call.Call.TheVariants as call
use Rattle.op_table.specs.Kind.{values_of}
use Rattle.op_table.specs.Call.{CallFits}
use Rattle.work_lang.specs.declared.fault.Slip.{Slip}
use Rattle.work_lang.specs.declared.operands.Arity.TheVariants as arity
use Rattle.work_lang.specs.declared.operands.Operands.{Operands}
use Rattle.work_lang.specs.declared.operands.Operands.TheVariants as given
use Rattle.work_lang.specs.Operands.{Form, Alone, WithValue, WithPosition, WithValues, arity_in, alone_in, value_in, position_in, values_in, zero_in, position_kind, operands_in}
use Rattle.work_lang.specs.Reading.{number_at, one_operand_at, two_operands_at, operands_at}
use Rattle.work_lang.proofs.Steps.{some_is, none_some}

pub alone_read : (kind : Kind) (f : Form) (c : Cursor) (x : Call) → alone_in f ≡ Some x → operands_at kind f c ≡ Ok (x, c)
unfolding operands_at
alone_read kind (Alone y) c x made = ap (λ (z : Call). Ok (z, c)) (some_is y x made)
alone_read kind _ c x made = absurd (none_some made)

pub value_read : (kind : Kind) (f : Form) (c d : Cursor) (a : ℕ) (x : Call) → number_at kind c ≡ Ok (a, d) → value_in f a ≡ Some x → operands_at kind f c ≡ Ok (x, d)
unfolding operands_at one_operand_at
value_read kind (WithValue g) c d a x read made = rw read (ap (λ (z : Call). Ok (z, d)) (some_is (g a) x made))
value_read kind _ c d a x read made = absurd (none_some made)

pub value_fails : (kind : Kind) (f : Form) (c : Cursor) (s : Slip) → arity_in f ≡ arity.Value → number_at kind c ≡ Err s → operands_at kind f c ≡ Err s
unfolding operands_at one_operand_at
value_fails kind (WithValue g) c s is read = rw read refl
value_fails kind _ c s is read = absurd cc

pub position_read : (kind : Kind) (f : Form) (c d : Cursor) (p : ℕ) (x : Call) → number_at position_kind c ≡ Ok (p, d) → position_in f p ≡ Some x → operands_at kind f c ≡ Ok (x, d)
unfolding operands_at one_operand_at
position_read kind (WithPosition g) c d p x read made = rw read (ap (λ (z : Call). Ok (z, d)) (some_is (g p) x made))
position_read kind _ c d p x read made = absurd (none_some made)

pub position_fails : (kind : Kind) (f : Form) (c : Cursor) (s : Slip) → arity_in f ≡ arity.Position → number_at position_kind c ≡ Err s → operands_at kind f c ≡ Err s
unfolding operands_at one_operand_at
position_fails kind (WithPosition g) c s is read = rw read refl
position_fails kind _ c s is read = absurd cc

pub values_read : (kind : Kind) (f : Form) (c d e : Cursor) (a b : ℕ) (x : Call) → number_at kind c ≡ Ok (a, d) → number_at kind d ≡ Ok (b, e) → values_in f a b ≡ Some x → operands_at kind f c ≡ Ok (x, e)
unfolding operands_at two_operands_at
values_read kind (WithValues g) c d e a b x first second made = rw (first, second) (ap (λ (z : Call). Ok (z, e)) (some_is (g a b) x made))
values_read kind _ c d e a b x first second made = absurd (none_some made)

pub first_fails : (kind : Kind) (f : Form) (c : Cursor) (s : Slip) → arity_in f ≡ arity.Values → number_at kind c ≡ Err s → operands_at kind f c ≡ Err s
unfolding operands_at two_operands_at
first_fails kind (WithValues g) c s is read = rw read refl
first_fails kind _ c s is read = absurd cc

pub second_fails : (kind : Kind) (f : Form) (c d : Cursor) (a : ℕ) (s : Slip) → arity_in f ≡ arity.Values → number_at kind c ≡ Ok (a, d) → number_at kind d ≡ Err s → operands_at kind f c ≡ Err s
unfolding operands_at two_operands_at
second_fails kind (WithValues g) c d a s is first second = rw (first, second) refl
second_fails kind _ c d a s is first second = absurd cc

-- ---- the call whose operands are 0

pub alone_is_zero : (f : Form) (x : Call) → alone_in f ≡ Some x → x ≡ zero_in f
alone_is_zero (Alone y) x made = sym (some_is y x made)
alone_is_zero _ x made = absurd (none_some made)

pub value_is_zero : (f : Form) (x : Call) → value_in f 0 ≡ Some x → x ≡ zero_in f
value_is_zero (WithValue g) x made = sym (some_is (g 0) x made)
value_is_zero _ x made = absurd (none_some made)

pub position_is_zero : (f : Form) (x : Call) → position_in f 0 ≡ Some x → x ≡ zero_in f
position_is_zero (WithPosition g) x made = sym (some_is (g 0) x made)
position_is_zero _ x made = absurd (none_some made)

pub values_are_zero : (f : Form) (x : Call) → values_in f 0 0 ≡ Some x → x ≡ zero_in f
values_are_zero (WithValues g) x made = sym (some_is (g 0 0) x made)
values_are_zero _ x made = absurd (none_some made)

-- the exit of a `?`: what it returns is the error that it met
pub reads_exit : (result : Result Call Slip) (s : Slip) (new : Cursor) (read : Result (Call × Cursor) Slip) → IsErrAnd result (λ met. met ≡ s) → read ≡ Err s → Steps (λ x. x) result new read
reads_exit (Ok x) s new read met is = absurd met
reads_exit (Err t) s new read met is = is ∙ ap (λ (z : Slip). Err z) (sym met)

-- ---- operands of calls

-- value operands are values of the kind
abbrev pub OperandsFit : Kind → Operands → Type 0
OperandsFit kind given.None = Unit {0}
OperandsFit kind (given.Value a) = a < values_of kind
OperandsFit kind (given.Position p) = Unit {0}
OperandsFit kind (given.Values e n) = (e < values_of kind) × (n < values_of kind)

pub operands_fit : (kind : Kind) (x : Call) → CallFits kind x → OperandsFit kind (operands_in x)
operands_fit kind call.Load fits = tt
operands_fit kind (call.Store a) fits = fits
operands_fit kind (call.Swap a) fits = fits
operands_fit kind (call.Cas e n) fits = fits
operands_fit kind (call.CasWeak e n) fits = fits
operands_fit kind (call.Not q) fits = tt
operands_fit kind (call.Neg q) fits = tt
operands_fit kind (call.BitSet p) fits = tt
operands_fit kind (call.BitClear p) fits = tt
operands_fit kind (call.BitToggle p) fits = tt
operands_fit kind _ fits = fits.0
