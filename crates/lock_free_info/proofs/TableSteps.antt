-- One more line of a plan table.
use Rattle.std.proofs.Common.{◌≡◌, ℕ, zero, suc, ◌+◌, ◌≤◌, Bool, List, [], ◌∷◌, ◌++◌, length, drop, get_or, ap, sym, ◌∙◌, arith, Some, slice_get}
use Rattle.op_table.specs.declared.call.Call.{Call}
use Rattle.op_table.specs.declared.words.Operation.{Operation}
use Rattle.op_table.specs.Kind.{bytes_of}
use Rattle.op_table.specs.Words.{operations_of}
use Rattle.target_desc.specs.declared.target.Target.{Target}
use Rattle.place_core.specs.declared.name.Declared.{Declared}
use Rattle.place_core.specs.declared.places.Object.{Object}
use Rattle.place_core.specs.declared.places.Path.{Path}
use Rattle.place_core.specs.declared.shape.Shape.{Shape}
use Rattle.place_core.specs.Operations.{path_at}
use Rattle.place_core.proofs.ShapeFacts.{place_of-at, kind_of-at}
use Rattle.layout_plan.specs.Layout.{next_address, place_after, laid_at, objects_from, shape_of}
use Rattle.layout_plan.specs.Plans.{is_sole_at, path_with}
use Rattle.layout_plan.proofs.LaneCounts.{path_at_place}
use Rattle.work_lang.proofs.Firsts.{others, first_others}
use Rattle.lock_free_info.specs.declared.classes.PathClass.{PathClass}
use Rattle.lock_free_info.specs.Classes.{class_by, class_of}
use Rattle.work_lang.specs.Operands.{zero_call}
use Rattle.work_lang.specs.Canonical.{target_line}
use Rattle.lock_free_info.specs.PlanTable.{word_line, word_lines, object_line, object_lines, lines_from, plan_lines}

-- ---- words

-- the class that was found is that of the shape's plan
pub class_known : (S : Shape) (o : ℕ) (a : Object) (x : Call) (sole : Bool) (path : Path) (class : PathClass) → slice_get S.objects o ≡ Some a → sole ≡ is_sole_at S a.place
    → path ≡ path_with S.steps a.kind x a.place sole → class ≡ class_by path → class ≡ class_of S o x
class_known S o a x sole path class at told made is =
    is ∙ ap class_by (made ∙ ap (λ (b : Bool). path_with S.steps a.kind x a.place b) told ∙ path_at_place S a.kind x a.place
    ∙ (λ i. path_at S (sym (kind_of-at S o a at) i) x (sym (place_of-at S o a at) i)))

pub words_step : (S : Shape) (o : ℕ) (x : Declared) (ops : List Operation) (default : Operation) (class : PathClass) → 1 ≤ length ops → class ≡ class_of S o (zero_call (get_or ops 0 default))
    → word_lines S o x ops ≡ (word_line x (get_or ops 0 default) class ∷ []) ++ word_lines S o x (others ops)
words_step S o x ops default class some is =
    ap (λ (l : List Operation). word_lines S o x l) (first_others ops default some)
    ∙ ap (λ (c : PathClass). word_line x (get_or ops 0 default) c ∷ word_lines S o x (others ops)) (sym is)

-- ---- objects

same_object : (a b : Object) → Some a ≡ Some b → a ≡ b
same_object a b e = cc

-- the object of the shape is the declared one at its address
pub object_step : (t : Target) (S : Shape) (o : ℕ) (x : Declared) (address : ℕ) (a : Object) → slice_get S.objects o ≡ Some (laid_at t x address) → slice_get S.objects o ≡ Some a
    → object_lines t S o x address ≡ (object_line x address a.place ∷ []) ++ word_lines S o x (operations_of x.kind.class)
object_step t S o x address a laid at =
    let same : laid_at t x address ≡ a = same_object _ _ (sym laid ∙ at) in
    ap (λ (b : Object). object_line x address b.place ∷ word_lines S o x (operations_of x.kind.class)) same

first_at : {X : Type 0} (xs : List X) (n : ℕ) (y : X) (ys : List X) → drop n xs ≡ y ∷ ys → slice_get xs n ≡ Some y
first_at xs zero y ys e = ap (λ l. slice_get l 0) e
first_at [] (suc n) y ys e = absurd cc
first_at (x ∷ xs) (suc n) y ys e = first_at xs n y ys e

others_at : {X : Type 0} (xs : List X) (n : ℕ) (y : X) (ys : List X) → drop n xs ≡ y ∷ ys → drop (suc n) xs ≡ ys
others_at xs zero y ys e = ap (drop 1) e
others_at [] (suc n) y ys e = absurd cc
others_at (x ∷ xs) (suc n) y ys e = others_at xs n y ys e

add-one : (n : ℕ) → n + 1 ≡ suc n
add-one n = omega arith

module _ (t : Target) (after : ℕ) (xs : List Declared) (x : Declared) (address : ℕ) (some : 1 ≤ length xs) (is : x ≡ get_or xs 0 x) (next : address ≡ next_address t after x.kind) where
  first : xs ≡ x ∷ others xs
  first = first_others xs x some ∙ ap (λ (y : Declared). y ∷ others xs) (sym is)

  objects_first : objects_from t after xs ≡ laid_at t x address ∷ objects_from t (place_after t after x.kind) (others xs)
  objects_first = ap (objects_from t after) first ∙ ap (λ (a : ℕ). laid_at t x a ∷ objects_from t (place_after t after x.kind) (others xs)) (sym next)

  pub laid_first : (os : List Object) (n : ℕ) → drop n os ≡ objects_from t after xs → slice_get os n ≡ Some (laid_at t x address)
  laid_first os n laid = first_at os n _ _ (laid ∙ objects_first)

  module _ (bytes : ℕ) (size : bytes ≡ bytes_of x.kind) where
    ends : place_after t after x.kind ≡ address + bytes
    ends = omega (arith, next, size)

    pub laid_others : (os : List Object) (n : ℕ) → drop n os ≡ objects_from t after xs → drop (n + 1) os ≡ objects_from t (address + bytes) (others xs)
    laid_others os n laid =
        ap (λ (m : ℕ). drop m os) (add-one n) ∙ others_at os n _ _ (laid ∙ objects_first) ∙ ap (λ (m : ℕ). objects_from t m (others xs)) ends

    pub lines_step : (S : Shape) (n : ℕ) → lines_from t S n after xs ≡ object_lines t S n x address ++ lines_from t S (n + 1) (address + bytes) (others xs)
    lines_step S n =
        ap (lines_from t S n after) first
        ∙ ap (λ (a : ℕ). object_lines t S n x a ++ lines_from t S (n + 1) (place_after t after x.kind) (others xs)) (sym next)
        ∙ ap (λ (m : ℕ). object_lines t S n x address ++ lines_from t S (n + 1) m (others xs)) ends

pub table_made : (t : Target) (S : Shape) (xs : List Declared) → S ≡ shape_of t xs → plan_lines t xs ≡ (target_line t ∷ []) ++ lines_from t S 0 0 xs
table_made t S xs is = ap (λ (s : Shape). target_line t ∷ lines_from t s 0 0 xs) (sym is)
