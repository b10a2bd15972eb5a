use Rattle.std.proofs.Common.{◌≡◌, ◌⊎◌, Bool, ℕ, ◌<◌, inl, inr, subst}
use Rattle.std.proofs.lemmas.Nat.{or_lt, xor_lt}
use Rattle.op_table.specs.declared.kind.Kind.{Kind}
use Rattle.op_table.specs.declared.call.Call.{Call}
use Rattle.op_table.specs.declared.call.Call.TheVariants.{Or, OrFetch, Xor, XorFetch}
use Rattle.op_table.specs.Kind.{bits_of, values_of}
use Rattle.op_table.specs.Call.{CallFits}
use Rattle.op_table.proofs.operations.after.Goals as goal

-- the operand of a call is a value, whether it answers the value before or the one after
or_operand : (kind : Kind) (call : Call) (a : ℕ) → ((q : Bool) × (call ≡ Or a q)) ⊎ (call ≡ OrFetch a) → CallFits kind call → a < values_of kind
or_operand kind call a is fits = elim is [
  | inl before ↦ (subst (CallFits kind) before.1 fits).0
  | inr after ↦ (subst (CallFits kind) after fits).0
]

xor_operand : (kind : Kind) (call : Call) (a : ℕ) → ((q : Bool) × (call ≡ Xor a q)) ⊎ (call ≡ XorFetch a) → CallFits kind call → a < values_of kind
xor_operand kind call a is fits = elim is [
  | inl before ↦ (subst (CallFits kind) before.1 fits).0
  | inr after ↦ (subst (CallFits kind) after fits).0
]

pub returns-in-Or-clause-fits : goal.returns-in-Or-clause-fits
returns-in-Or-clause-fits c = or_lt (bits_of c.args.kind.width) _ _ c.requires.value (or_operand c.args.kind c.args.call.now _ c.in-Or.is c.requires.call)

pub returns-in-Xor-clause-fits : goal.returns-in-Xor-clause-fits
returns-in-Xor-clause-fits c = xor_lt (bits_of c.args.kind.width) _ _ c.requires.value (xor_operand c.args.kind c.args.call.now _ c.in-Xor.is c.requires.call)

pub returns-in-BitSet-clause-fits : goal.returns-in-BitSet-clause-fits
returns-in-BitSet-clause-fits c = or_lt (bits_of c.args.kind.width) _ _ c.requires.value c.bit.ensures.fits

pub returns-in-BitToggle-clause-fits : goal.returns-in-BitToggle-clause-fits
returns-in-BitToggle-clause-fits c = xor_lt (bits_of c.args.kind.width) _ _ c.requires.value c.bit-in-BitToggle.ensures.fits
