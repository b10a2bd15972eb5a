-- Operations make calls of their operands, and each call is made by its operation.
use Rattle.std.proofs.Common.{◌≡◌, ◌≢◌, ◌⊎◌, inl, inr, ℕ, ◌^◌, ◌<◌, Bool, true, false, List, [], ◌∷◌, refl, sym, ap, ◌∙◌, true≢false}
use Rattle.op_table.specs.declared.kind.Class.{Class}
use Rattle.op_table.specs.declared.kind.Class.TheVariants as class
use Rattle.op_table.specs.declared.kind.Kind.{Kind}
use Rattle.op_table.specs.declared.call.Call.{Call}
use Rattle.op_table.specs.declared.call.Call.TheVariants as call
use Rattle.op_table.specs.declared.words.Operation.{Operation}
use Rattle.op_table.specs.declared.words.Operation.TheVariants.{Load, Store, Swap, CompareExchange, CompareExchangeWeak, FetchAdd, Add, FetchSub, Sub, FetchAnd, And, FetchOr, Or, FetchXor, Xor, FetchMax, FetchMin, FetchNot, Not, FetchNeg, Neg, BitSet, BitClear, BitToggle, AddFetch, SubFetch, FetchByteAdd, FetchByteSub}
use Rattle.op_table.specs.Kind.{values_of}
use Rattle.op_table.specs.Call.{CallFits}
use Rattle.op_table.specs.Words.{has_operation, loud_or_quiet, sum_operation, operation_of}
use Rattle.work_lang.specs.Operands.{Form, Alone, WithValue, WithPosition, WithValues, form_of, position_kind, Operand, operand, operands_of, HasPosition}

-- ---- classes

-- a class that has the operation is none that doesn't
other_than : (op : Operation) (c x : Class) → has_operation x op ≡ false → has_operation c op ≡ true → c ≢ x
other_than op c x hasn't has same = true≢false (sym has ∙ ap (λ (y : Class). has_operation y op) same ∙ hasn't)

is_int : (op : Operation) (c : Class) → has_operation class.Bool op ≡ false → has_operation class.Ptr op ≡ false → has_operation c op ≡ true → c ≡ class.Int
is_int op class.Int b p has = refl
is_int op class.Bool b p has = absurd (other_than op class.Bool class.Bool b has refl)
is_int op class.Ptr b p has = absurd (other_than op class.Ptr class.Ptr p has refl)

is_ptr : (op : Operation) (c : Class) → has_operation class.Int op ≡ false → has_operation class.Bool op ≡ false → has_operation c op ≡ true → c ≡ class.Ptr
is_ptr op class.Ptr i b has = refl
is_ptr op class.Int i b has = absurd (other_than op class.Int class.Int i has refl)
is_ptr op class.Bool i b has = absurd (other_than op class.Bool class.Bool b has refl)

-- ---- from operands to calls

-- a call of this operation, with these operands
abbrev pub Makes : Kind → Operation → Call → List Operand → Type 0
Makes kind op x operands = (operation_of kind x ≡ op) × CallFits kind x × HasPosition x × (operands_of kind x ≡ operands)

abbrev pub FormMakes : Kind → Operation → Form → Type 0
FormMakes kind op (Alone x) = Makes kind op x []
FormMakes kind op (WithValue f) = (a : ℕ) → a < values_of kind → Makes kind op (f a) (operand kind a ∷ [])
FormMakes kind op (WithPosition f) = (p : ℕ) → p < 2 ^ 32 → Makes kind op (f p) (operand position_kind p ∷ [])
FormMakes kind op (WithValues f) = (e n : ℕ) → e < values_of kind → n < values_of kind → Makes kind op (f e n) (operand kind e ∷ operand kind n ∷ [])

pub form_makes : (kind : Kind) (op : Operation) → has_operation kind.class op ≡ true → FormMakes kind op (form_of op)
form_makes kind Load has = (refl, tt, tt, refl)
form_makes kind Store has = λ a small. (refl, small, tt, refl)
form_makes kind Swap has = λ a small. (refl, small, tt, refl)
form_makes kind CompareExchange has = λ e n small less. (refl, (small, less), tt, refl)
form_makes kind CompareExchangeWeak has = λ e n small less. (refl, (small, less), tt, refl)
form_makes kind FetchAdd has = λ a small. let is = is_int FetchAdd kind.class refl refl has in (ap (λ (c : Class). sum_operation c false FetchAdd Add FetchByteAdd) is, (small, inl is), tt, refl)
form_makes kind Add has = λ a small. let is = is_int Add kind.class refl refl has in (ap (λ (c : Class). sum_operation c true FetchAdd Add FetchByteAdd) is, (small, inl is), tt, refl)
form_makes kind FetchSub has = λ a small. let is = is_int FetchSub kind.class refl refl has in (ap (λ (c : Class). sum_operation c false FetchSub Sub FetchByteSub) is, (small, inl is), tt, refl)
form_makes kind Sub has = λ a small. let is = is_int Sub kind.class refl refl has in (ap (λ (c : Class). sum_operation c true FetchSub Sub FetchByteSub) is, (small, inl is), tt, refl)
form_makes kind FetchAnd has = λ a small. (refl, (small, λ is. refl), tt, refl)
form_makes kind And has = λ a small. (refl, (small, λ is. absurd (other_than And kind.class class.Ptr refl has is)), tt, refl)
form_makes kind FetchOr has = λ a small. (refl, (small, λ is. refl), tt, refl)
form_makes kind Or has = λ a small. (refl, (small, λ is. absurd (other_than Or kind.class class.Ptr refl has is)), tt, refl)
form_makes kind FetchXor has = λ a small. (refl, (small, λ is. refl), tt, refl)
form_makes kind Xor has = λ a small. (refl, (small, λ is. absurd (other_than Xor kind.class class.Ptr refl has is)), tt, refl)
form_makes kind FetchMax has = λ a small. (refl, (small, is_int FetchMax kind.class refl refl has), tt, refl)
form_makes kind FetchMin has = λ a small. (refl, (small, is_int FetchMin kind.class refl refl has), tt, refl)
form_makes kind FetchNot has = (refl, other_than FetchNot kind.class class.Ptr refl has, tt, refl)
form_makes kind Not has = (refl, other_than Not kind.class class.Ptr refl has, tt, refl)
form_makes kind FetchNeg has = (refl, is_int FetchNeg kind.class refl refl has, tt, refl)
form_makes kind Neg has = (refl, is_int Neg kind.class refl refl has, tt, refl)
form_makes kind BitSet has = λ p small. (refl, other_than BitSet kind.class class.Bool refl has, small, refl)
form_makes kind BitClear has = λ p small. (refl, other_than BitClear kind.class class.Bool refl has, small, refl)
form_makes kind BitToggle has = λ p small. (refl, other_than BitToggle kind.class class.Bool refl has, small, refl)
form_makes kind AddFetch has = λ a small. (refl, (small, is_int AddFetch kind.class refl refl has), tt, refl)
form_makes kind SubFetch has = λ a small. (refl, (small, is_int SubFetch kind.class refl refl has), tt, refl)
form_makes kind FetchByteAdd has = λ a small. let is = is_ptr FetchByteAdd kind.class refl refl has in (ap (λ (c : Class). sum_operation c false FetchAdd Add FetchByteAdd) is, (small, inr (is, refl)), tt, refl)
form_makes kind FetchByteSub has = λ a small. let is = is_ptr FetchByteSub kind.class refl refl has in (ap (λ (c : Class). sum_operation c false FetchSub Sub FetchByteSub) is, (small, inr (is, refl)), tt, refl)
form_makes kind op has = λ a small. (refl, (small, other_than op kind.class class.Ptr refl has), tt, refl)

-- ---- from calls to operands

-- the form makes this call of these operands
abbrev pub FormGives : Kind → Form → Call → List Operand → Type 0
FormGives kind (Alone y) x operands = (y ≡ x) × (operands ≡ [])
FormGives kind (WithValue f) x operands = (a : ℕ) × (f a ≡ x) × (operands ≡ operand kind a ∷ [])
FormGives kind (WithPosition f) x operands = (p : ℕ) × (f p ≡ x) × (operands ≡ operand position_kind p ∷ [])
FormGives kind (WithValues f) x operands = (e n : ℕ) × (f e n ≡ x) × (operands ≡ operand kind e ∷ operand kind n ∷ [])

sum_gives : (kind : Kind) (c : Class) (q : Bool) (a : ℕ) → (c ≡ class.Int) ⊎ ((c ≡ class.Ptr) × (q ≡ false))
    → FormGives kind (form_of (sum_operation c q FetchAdd Add FetchByteAdd)) (call.Add a q) (operand kind a ∷ []) × FormGives kind (form_of (sum_operation c q FetchSub Sub FetchByteSub)) (call.Sub a q) (operand kind a ∷ [])
sum_gives kind class.Int true a fits = ((a, refl, refl), (a, refl, refl))
sum_gives kind class.Int false a fits = ((a, refl, refl), (a, refl, refl))
sum_gives kind class.Ptr false a fits = ((a, refl, refl), (a, refl, refl))
sum_gives kind class.Ptr true a (inl is) = absurd cc
sum_gives kind class.Ptr true a (inr is) = absurd (true≢false is.1)
sum_gives kind class.Bool q a (inl is) = absurd cc
sum_gives kind class.Bool q a (inr is) = absurd (no_class is.0)
  where
    no_class : class.Bool ≡ class.Ptr → ⊥
    no_class e = cc

logic_gives : (kind : Kind) (q : Bool) (a : ℕ) → FormGives kind (form_of (loud_or_quiet q FetchAnd And)) (call.And a q) (operand kind a ∷ []) × FormGives kind (form_of (loud_or_quiet q FetchOr Or)) (call.Or a q) (operand kind a ∷ []) × FormGives kind (form_of (loud_or_quiet q FetchXor Xor)) (call.Xor a q) (operand kind a ∷ [])
logic_gives kind true a = ((a, refl, refl), (a, refl, refl), (a, refl, refl))
logic_gives kind false a = ((a, refl, refl), (a, refl, refl), (a, refl, refl))

alone_gives : (kind : Kind) (q : Bool) → FormGives kind (form_of (loud_or_quiet q FetchNot Not)) (call.Not q) [] × FormGives kind (form_of (loud_or_quiet q FetchNeg Neg)) (call.Neg q) []
alone_gives kind true = ((refl, refl), (refl, refl))
alone_gives kind false = ((refl, refl), (refl, refl))

pub call_gives : (kind : Kind) (x : Call) → CallFits kind x → FormGives kind (form_of (operation_of kind x)) x (operands_of kind x)
call_gives kind call.Load fits = (refl, refl)
call_gives kind (call.Cas e n) fits = (e, n, refl, refl)
call_gives kind (call.CasWeak e n) fits = (e, n, refl, refl)
call_gives kind (call.Add a q) fits = (sum_gives kind kind.class q a fits.1).0
call_gives kind (call.Sub a q) fits = (sum_gives kind kind.class q a fits.1).1
call_gives kind (call.And a q) fits = (logic_gives kind q a).0
call_gives kind (call.Or a q) fits = (logic_gives kind q a).1
call_gives kind (call.Xor a q) fits = (logic_gives kind q a).2
call_gives kind (call.Not q) fits = (alone_gives kind q).0
call_gives kind (call.Neg q) fits = (alone_gives kind q).1
call_gives kind _ fits = (_, refl, refl)
