-- Loads and members of one family: they commute, and none of them fails.
use Rattle.std.proofs.Common.{◌≡◌, ◌⊎◌, inl, inr, ⊎_elim, ℕ, ◌<◌, Bool, true, false, refl, ap, sym, ◌∙◌}
use Rattle.op_table.specs.declared.kind.Kind.{Kind}
use Rattle.op_table.specs.declared.call.Call.{Call}
use Rattle.op_table.specs.declared.call.Call.TheVariants.{Load, Cas, CasWeak, Add, Sub, And, Or, Xor, Not, Neg}
use Rattle.op_table.specs.declared.call.Reply.{Reply}
use Rattle.op_table.specs.Kind.{values_of, IsKind}
use Rattle.op_table.specs.Call.{after_of, answer_of, unless_quiet, IsSpurious, Permits, CallFits}
use Rattle.op_table.proofs.Rows.{after_fits}
use Rattle.place_core.specs.Cells.{effect_of}
use Rattle.ledger_sums.specs.declared.families.Family.{Family}
use Rattle.ledger_sums.specs.declared.families.Mix.{Mix}
use Rattle.ledger_sums.specs.declared.families.Mix.TheVariants.{Loads, One, Other}
use Rattle.ledger_sums.specs.Families.{mix_of, suits}
use Rattle.ledger_sums.proofs.Mixes.{family_from_same}
use Rattle.ledger_sums.proofs.Commuting.{act, operand, acts, operand_fits, act_either}

-- a load or a member of the family, which the kind has
pub record IsMember (k : Kind) (f : Family) (c : Call) : Type 0 where
  pub suited : suits f (mix_of c) ≡ true
  pub fits : CallFits k c

load_or_member : (f : Family) (mix : Mix) → suits f mix ≡ true → (mix ≡ Loads) ⊎ (mix ≡ One f)
load_or_member f Loads suited = inl refl
load_or_member f (One g) suited = inr (ap One (sym (family_from_same f g suited)))
load_or_member f Other suited = absurd cc

-- ---- two of them in either order

-- a load leaves the value
still : (k : Kind) (c : Call) (v : ℕ) → mix_of c ≡ Loads → after_of k c v ≡ v
still k Load v is = refl
still k _ v is = absurd cc

both_members : (k : Kind) (f : Family) (c d : Call) (v : ℕ) → IsKind k → CallFits k c → CallFits k d → mix_of c ≡ One f → mix_of d ≡ One f → v < values_of k → after_of k d (after_of k c v) ≡ after_of k c (after_of k d v)
both_members k f c d v valid fits fits_too is too small =
    acts k d f (after_of k c v) too (after_fits k c v valid fits small)
    ∙ ap (act k f (operand k d)) (acts k c f v is small)
    ∙ act_either k f v (operand k c) (operand k d) (operand_fits k c f is fits) (operand_fits k d f too fits_too)
    ∙ ap (act k f (operand k c)) (sym (acts k d f v too small))
    ∙ sym (acts k c f (after_of k d v) is (after_fits k d v valid fits_too small))

pub either_order : (k : Kind) (f : Family) (c d : Call) (v : ℕ) → IsKind k → IsMember k f c → IsMember k f d → v < values_of k → after_of k d (after_of k c v) ≡ after_of k c (after_of k d v)
either_order k f c d v valid first second small = ⊎_elim
    (λ (load : mix_of c ≡ Loads). ap (after_of k d) (still k c v load) ∙ sym (still k c (after_of k d v) load))
    (λ (is : mix_of c ≡ One f). ⊎_elim
    (λ (load : mix_of d ≡ Loads). still k d (after_of k c v) load ∙ ap (after_of k c) (sym (still k d v load)))
    (λ (too : mix_of d ≡ One f). both_members k f c d v valid first.fits second.fits is too small)
    (load_or_member f (mix_of d) second.suited))
    (load_or_member f (mix_of c) first.suited)

-- ---- none of them fails, so each leaves the table's value

quiet_or_not : (q : Bool) (u next w : ℕ) → effect_of (unless_quiet q u) next w ≡ next
quiet_or_not true u next w = refl
quiet_or_not false u next w = refl

answered : (k : Kind) (f : Family) (c : Call) (u next w : ℕ) → suits f (mix_of c) ≡ true → effect_of (answer_of k c u) next w ≡ next
answered k f (Cas e n) u next w suited = absurd cc
answered k f (CasWeak e n) u next w suited = absurd cc
answered k f (Add a q) u next w suited = quiet_or_not q u next w
answered k f (Sub a q) u next w suited = quiet_or_not q u next w
answered k f (And a q) u next w suited = quiet_or_not q u next w
answered k f (Or a q) u next w suited = quiet_or_not q u next w
answered k f (Xor a q) u next w suited = quiet_or_not q u next w
answered k f (Not q) u next w suited = quiet_or_not q u next w
answered k f (Neg q) u next w suited = quiet_or_not q u next w
answered k f _ u next w suited = refl

not_spurious : (f : Family) (c : Call) (u z : ℕ) (r : Reply) → suits f (mix_of c) ≡ true → IsSpurious c u r z → ⊥
not_spurious f (CasWeak e n) u z r suited spurious = absurd cc
not_spurious f _ u z r suited spurious = spurious

pub leaves_after : (k : Kind) (f : Family) (c : Call) (u z : ℕ) (r : Reply) → suits f (mix_of c) ≡ true → Permits k c u r z → (w : ℕ) → effect_of r (after_of k c w) w ≡ after_of k c w
leaves_after k f c u z r suited permitted w = ⊎_elim
    (λ (row : (r ≡ answer_of k c u) × (z ≡ after_of k c u)). ap (λ (x : Reply). effect_of x (after_of k c w) w) row.0 ∙ answered k f c u (after_of k c w) w suited)
    (λ (spurious : IsSpurious c u r z). absurd (not_spurious f c u z r suited spurious))
    permitted
