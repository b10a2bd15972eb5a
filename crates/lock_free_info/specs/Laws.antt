-- Laws of locks, classes and the plan table, as the module `laws` proves them.
use Rattle.std.specs.Prelude.{◌≡◌, ◌↔◌, ℕ, ◌≤◌, List, length, Some, slice_get}
use Rattle.std.specs.List.{AllByRecursion}
use Rattle.op_table.specs.declared.kind.Kind.{Kind}
use Rattle.op_table.specs.declared.call.Call.{Call}
use Rattle.op_table.specs.declared.words.Operation.{Operation}
use Rattle.op_table.specs.Call.{CallFits}
use Rattle.op_table.specs.Words.{operations_of, operation_of}
use Rattle.target_desc.specs.declared.target.Target.{Target}
use Rattle.target_desc.specs.Target.{IsTarget}
use Rattle.place_core.specs.declared.name.Declared.{Declared}
use Rattle.place_core.specs.declared.shape.Shape.{Shape}
use Rattle.place_core.specs.Shapes.{kind_of, most_in_shape}
use Rattle.layout_plan.specs.Layout.{AreDeclared, shape_of}
use Rattle.layout_plan.specs.Laws.{HasLane}
use Rattle.lock_free_info.specs.declared.classes.PathClass.TheVariants.{Locked}
use Rattle.lock_free_info.specs.Classes.{IsLockFree, class_of}
use Rattle.work_lang.specs.Operands.{zero_call}
use Rattle.lock_free_info.specs.PlanTable.{plan_lines}

-- on a laid shape an object has a lane exactly where its kind is lock-free
abbrev pub LaneIsLockFree : Type 0
LaneIsLockFree = (t : Target) (xs : List Declared) (o : ℕ) (x : Declared) → slice_get xs o ≡ Some x → HasLane (shape_of t xs) o ↔ IsLockFree t x.kind

-- on a laid shape a call on an object takes a lock exactly where its kind isn't lock-free
abbrev pub LockedIsNotLockFree : Type 0
LockedIsNotLockFree = (t : Target) (xs : List Declared) (o : ℕ) (x : Declared) (call : Call) → slice_get xs o ≡ Some x
    → (class_of (shape_of t xs) o call ≡ Locked) ↔ (IsLockFree t x.kind → ⊥)

-- the call for a word is one that the kind has, and is of that word
abbrev pub IsCallOf : Kind → Operation → Type 0
IsCallOf k op = CallFits k (zero_call op) × (operation_of k (zero_call op) ≡ op)

-- each word of a kind's class has such a call
abbrev pub WordsHaveCalls : Type 0
WordsHaveCalls = (k : Kind) → AllByRecursion (IsCallOf k) (operations_of k.class)

-- a word has one class of path on an object, whatever its operands are
abbrev pub WordHasOnePath : Type 0
WordHasOnePath = (S : Shape) (o : ℕ) (call : Call) → class_of S o call ≡ class_of S o (zero_call (operation_of (kind_of S o) call))

-- the name has at most 16 bytes
abbrev pub HasShortName : Declared → Type 0
HasShortName x = length x.name ≤ 16

-- the line has at most 107 bytes
abbrev pub IsShortLine : List ℕ → Type 0
IsShortLine line = length line ≤ 107

-- each line of a plan table is short
abbrev pub PlanLinesAreShort : Type 0
PlanLinesAreShort = (t : Target) (xs : List Declared) → IsTarget t → AreDeclared xs → length xs ≤ most_in_shape → AllByRecursion HasShortName xs → AllByRecursion IsShortLine (plan_lines t xs)
