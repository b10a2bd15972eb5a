-- Which calls take a lock, and that a word has one class of path.
use Rattle.std.proofs.Common.{◌≡◌, ℕ, Bool, true, false, if◌then◌else◌, refl, ap, sym, ◌∙◌, Option, Some, None}
use Rattle.op_table.specs.declared.kind.Kind.{Kind}
use Rattle.op_table.specs.declared.kind.Class.{Class}
use Rattle.op_table.specs.declared.kind.Class.TheVariants as class
use Rattle.op_table.specs.declared.order.StepSet.{StepSet}
use Rattle.op_table.specs.declared.call.Call.{Call}
use Rattle.op_table.specs.declared.call.Call.TheVariants as call
use Rattle.op_table.specs.declared.words.Operation.TheVariants.{FetchAdd, Add, FetchSub, Sub, FetchByteAdd, FetchByteSub}
use Rattle.op_table.specs.Words.{sum_operation, operation_of}
use Rattle.place_core.specs.declared.places.Place.{Place}
use Rattle.place_core.specs.declared.places.Place.TheVariants.{Lane, Parts}
use Rattle.place_core.specs.declared.places.WordOp.{WordOp}
use Rattle.place_core.specs.declared.places.Path.TheVariants.{One, Loop}
use Rattle.place_core.specs.declared.shape.Shape.{Shape}
use Rattle.place_core.specs.Shapes.{place_of, kind_of, is_sole}
use Rattle.place_core.specs.Operations.{is_top, only_if, op_for, has_step, path_by, path_at}
use Rattle.layout_plan.specs.Layout.{shape_of}
use Rattle.layout_plan.proofs.LaidObjects.{lane_is_narrow}
use Rattle.lock_free_info.specs.declared.classes.PathClass.{PathClass}
use Rattle.lock_free_info.specs.declared.classes.PathClass.TheVariants.{Locked}
use Rattle.lock_free_info.specs.Classes.{class_by, class_of}
use Rattle.work_lang.specs.Operands.{zero_call}
use Rattle.lock_free_info.specs.Laws.{LaneIsLockFree, LockedIsNotLockFree, WordHasOnePath}

-- ---- locks

pub lane_is_lock_free : LaneIsLockFree
lane_is_lock_free t xs o x at =
    let narrow = lane_is_narrow t xs o x at in (
      (λ lane. let fits = narrow.0 lane in record { no_section = fits.0; narrow = fits.1 }),
      (λ free. narrow.1 (free.no_section, free.narrow)),
    )

chosen : (b : Bool) (done : WordOp) → class_by (if b then One done else Loop) ≡ Locked → ⊥
chosen true done e = absurd cc
chosen false done e = absurd cc

-- a lane is never locked
never_locked : (steps : StepSet) (x : Option WordOp) → class_by (path_by steps x) ≡ Locked → ⊥
never_locked steps None e = absurd cc
never_locked steps (Some done) e = chosen (has_step steps done) done e

class_at : (S : Shape) (o : ℕ) (call : Call) (p : Option Place) → place_of S o ≡ p → class_of S o call ≡ class_by (path_at S (kind_of S o) call p)
class_at S o call p e = ap (λ (q : Option Place). class_by (path_at S (kind_of S o) call q)) e

-- what has no lane is locked
locked_at : (S : Shape) (o : ℕ) (call : Call) (p : Option Place) → place_of S o ≡ p → ((w s d : ℕ) → place_of S o ≡ Some (Lane w s d) → ⊥) → class_of S o call ≡ Locked
locked_at S o call None at none = class_at S o call None at
locked_at S o call (Some (Lane w s d)) at none = absurd (none w s d at)
locked_at S o call (Some (Parts l f n b)) at none = class_at S o call (Some (Parts l f n b)) at

pub locked_is_not_lock_free : LockedIsNotLockFree
locked_is_not_lock_free t xs o x call at =
    let lock_free = lane_is_lock_free t xs o x at in (
      (λ locked free. let lane = lock_free.1 free in
          never_locked (shape_of t xs).steps (op_for (kind_of (shape_of t xs) o) lane.shift lane.width (is_sole (shape_of t xs) lane.word) call)
          (sym (class_at (shape_of t xs) o call _ lane.lane) ∙ locked)),
      (λ no. locked_at (shape_of t xs) o call (place_of (shape_of t xs) o) refl (λ w s d lane. no (lock_free.0 (record { word = w; shift = s; width = d; lane = lane })))),
    )

-- ---- words

same_choice : (b : Bool) (x y : WordOp) → class_by (if b then One x else Loop) ≡ class_by (if b then One y else Loop)
same_choice true x y = refl
same_choice false x y = refl

module _ (steps : StepSet) where
  -- two steps that a target has or hasn't alike
  same_step : (x y : WordOp) → has_step steps x ≡ has_step steps y → class_by (path_by steps (Some x)) ≡ class_by (path_by steps (Some y))
  same_step x y e = same_choice (has_step steps x) x y ∙ ap (λ (b : Bool). class_by (if b then One y else Loop)) e

  same_only : (b : Bool) (x y : WordOp) → has_step steps x ≡ has_step steps y → class_by (path_by steps (only_if b x)) ≡ class_by (path_by steps (only_if b y))
  same_only true x y e = same_step x y e
  same_only false x y e = refl

  module _ (k : Kind) (s d : ℕ) (sole : Bool) where
    abbrev class_on : Call → PathClass
    class_on x = class_by (path_by steps (op_for k s d sole x))

    sum_on : (c : Class) (a : ℕ) (q : Bool) → class_on (call.Add a q) ≡ class_on (zero_call (sum_operation c q FetchAdd Add FetchByteAdd))
    sum_on class.Int a true = same_only (is_top s d) _ _ refl
    sum_on class.Bool a true = same_only (is_top s d) _ _ refl
    sum_on _ a q = same_only (is_top s d) _ _ refl

    difference_on : (c : Class) (a : ℕ) (q : Bool) → class_on (call.Sub a q) ≡ class_on (zero_call (sum_operation c q FetchSub Sub FetchByteSub))
    difference_on class.Int a true = same_only (is_top s d) _ _ refl
    difference_on class.Bool a true = same_only (is_top s d) _ _ refl
    difference_on _ a q = same_only (is_top s d) _ _ refl

    on_lane : (x : Call) → class_on x ≡ class_on (zero_call (operation_of k x))
    on_lane (call.Store a) = same_only sole _ _ refl
    on_lane (call.Swap a) = same_only sole _ _ refl
    on_lane (call.Cas e n) = same_only sole _ _ refl
    on_lane (call.CasWeak e n) = same_only sole _ _ refl
    on_lane (call.Add a q) = sum_on k.class a q
    on_lane (call.Sub a q) = difference_on k.class a q
    on_lane (call.And a true) = same_choice steps.bits _ _
    on_lane (call.And a false) = same_choice steps.bits _ _
    on_lane (call.Or a true) = same_choice steps.bits _ _
    on_lane (call.Or a false) = same_choice steps.bits _ _
    on_lane (call.Xor a true) = same_choice steps.bits _ _
    on_lane (call.Xor a false) = same_choice steps.bits _ _
    on_lane (call.Max a) = same_only _ _ _ refl
    on_lane (call.Min a) = same_only _ _ _ refl
    on_lane (call.Not true) = refl
    on_lane (call.Neg true) = refl
    on_lane (call.BitSet p) = same_choice steps.bits _ _
    on_lane (call.BitClear p) = same_choice steps.bits _ _
    on_lane (call.BitToggle p) = same_choice steps.bits _ _
    on_lane (call.AddFetch a) = same_only (is_top s d) _ _ refl
    on_lane (call.SubFetch a) = same_only (is_top s d) _ _ refl
    on_lane (call.AndFetch a) = same_choice steps.bits _ _
    on_lane (call.OrFetch a) = same_choice steps.bits _ _
    on_lane (call.XorFetch a) = same_choice steps.bits _ _
    on_lane _ = refl

at_place : (S : Shape) (k : Kind) (x : Call) (p : Option Place) → class_by (path_at S k x p) ≡ class_by (path_at S k (zero_call (operation_of k x)) p)
at_place S k x None = refl
at_place S k x (Some (Lane w s d)) = on_lane S.steps k s d (is_sole S w) x
at_place S k x (Some (Parts l f n b)) = refl

pub word_has_one_path : WordHasOnePath
word_has_one_path S o x = at_place S (kind_of S o) x (place_of S o)
