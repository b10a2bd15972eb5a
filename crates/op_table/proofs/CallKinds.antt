-- What kinds of calls do by the table.
use Rattle.std.proofs.Common.{◌≡◌, Bool, true, false, ℕ, ◌==◌, if◌then◌else◌, refl, sym, ap, ◌∙◌}
use Rattle.std.specs.Prelude.{not}
use Rattle.op_table.specs.declared.call.Call.{Call}
use Rattle.op_table.specs.declared.call.Call.TheVariants.{Load, Cas, CasWeak, Add, Sub, And, Or, Xor, Not, Neg}
use Rattle.op_table.specs.declared.call.Reply.TheVariants as reply
use Rattle.op_table.specs.Call.{unless_quiet}
use Rattle.op_table.specs.CallTests.{is_load, has_failed}
use Rattle.op_table.specs.Laws.{LoadKeepsValue, OnlyExchangesFail, UnwrittenKeepsValue}

-- a call that the test takes for a load is `Load`
pub load_is : (call : Call) → is_load call ≡ true → call ≡ Load
load_is Load e = refl
load_is _ e = absurd cc

pub load_keeps_value : LoadKeepsValue
load_keeps_value kind Load v is = refl
load_keeps_value kind _ v is = absurd cc

-- neither a quiet call nor a replying one fails
never_fails : (q : Bool) (v : ℕ) → has_failed (unless_quiet q v) ≡ false
never_fails true v = refl
never_fails false v = refl

differs : (b : Bool) (v : ℕ) → has_failed (if b then reply.Done v else reply.Failed v) ≡ true → not b ≡ true
differs true v e = absurd cc
differs false v e = refl

clash : (b : Bool) → b ≡ false → b ≡ true → ⊥
clash b f t = let both : false ≡ true = sym f ∙ t in cc

pub only_exchanges_fail : OnlyExchangesFail
only_exchanges_fail kind (Cas e n) v fails = differs (v == e) v fails
only_exchanges_fail kind (CasWeak e n) v fails = differs (v == e) v fails
only_exchanges_fail kind (Add a q) v fails = absurd (clash _ (never_fails q v) fails)
only_exchanges_fail kind (Sub a q) v fails = absurd (clash _ (never_fails q v) fails)
only_exchanges_fail kind (And a q) v fails = absurd (clash _ (never_fails q v) fails)
only_exchanges_fail kind (Or a q) v fails = absurd (clash _ (never_fails q v) fails)
only_exchanges_fail kind (Xor a q) v fails = absurd (clash _ (never_fails q v) fails)
only_exchanges_fail kind (Not q) v fails = absurd (clash _ (never_fails q v) fails)
only_exchanges_fail kind (Neg q) v fails = absurd (clash _ (never_fails q v) fails)
only_exchanges_fail kind _ v fails = absurd cc

kept_by : (b : Bool) (n v : ℕ) → not (has_failed (if b then reply.Done v else reply.Failed v)) ≡ false → (if b then n else v) ≡ v
kept_by true n v e = absurd cc
kept_by false n v e = refl

pub unwritten_keeps_value : UnwrittenKeepsValue
unwritten_keeps_value kind Load v e = refl
unwritten_keeps_value kind (Cas x n) v e = kept_by (v == x) n v e
unwritten_keeps_value kind (CasWeak x n) v e = kept_by (v == x) n v e
unwritten_keeps_value kind (Add a q) v e = absurd (clash _ e (ap not (never_fails q v)))
unwritten_keeps_value kind (Sub a q) v e = absurd (clash _ e (ap not (never_fails q v)))
unwritten_keeps_value kind (And a q) v e = absurd (clash _ e (ap not (never_fails q v)))
unwritten_keeps_value kind (Or a q) v e = absurd (clash _ e (ap not (never_fails q v)))
unwritten_keeps_value kind (Xor a q) v e = absurd (clash _ e (ap not (never_fails q v)))
unwritten_keeps_value kind (Not q) v e = absurd (clash _ e (ap not (never_fails q v)))
unwritten_keeps_value kind (Neg q) v e = absurd (clash _ e (ap not (never_fails q v)))
unwritten_keeps_value kind _ v e = absurd cc
