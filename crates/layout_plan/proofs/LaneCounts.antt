-- Counts of lanes by word, which end at 2, and what they tell of an object's lane.
use Rattle.std.proofs.Common.{◌≡◌, ℕ, zero, suc, ◌+◌, ◌-◌, ◌≤◌, Bool, List, [], ◌∷◌, length, map, get_or, take, drop, refl, ap, sym, ◌∙◌, subst, arith, Some, slice_get}
use Rattle.std.specs.Prelude.{min}
use Rattle.std.specs.List.{AllByRecursion}
use Rattle.op_table.specs.declared.kind.Kind.{Kind}
use Rattle.op_table.specs.declared.call.Call.{Call}
use Rattle.place_core.specs.declared.places.Object.{Object}
use Rattle.place_core.specs.declared.places.Place.{Place}
use Rattle.place_core.specs.declared.places.Place.TheVariants.{Lane, Parts}
use Rattle.place_core.specs.declared.shape.Shape.{Shape}
use Rattle.place_core.specs.WordSums.{lies_in, lanes_in, one_if}
use Rattle.place_core.specs.Shapes.{strip_of}
use Rattle.place_core.specs.Operations.{path_at, plan_of}
use Rattle.place_core.proofs.ShapeFacts.{place_of-at, kind_of-at}
use Rattle.layout_plan.specs.Plans.{is_sole_at, ArePlansOf, path_with}

take_whole : {A : Type 0} (xs : List A) → take (length xs) xs ≡ xs
take_whole [] = refl
take_whole (x ∷ xs) = ap (λ ys. x ∷ ys) (take_whole xs)

pub others_are : {A : Type 0} (P : A → Type 0) (xs : List A) → AllByRecursion P xs → AllByRecursion P (take (length xs - 1) (drop 1 xs))
others_are P [] all = tt
others_are P (x ∷ xs) all =
    let short : length xs ≡ suc (length xs) - 1 = omega arith in
    subst (λ (n : ℕ). AllByRecursion P (take n xs)) short (subst (λ ys. AllByRecursion P ys) (sym (take_whole xs)) all.1)

-- one more object was counted
pub count_more : (xs : List Object) (d : Object) (w c next whole : ℕ) → 1 ≤ length xs
    → next ≡ min 2 (c + one_if (lies_in w (strip_of (get_or xs 0 d).place)))
    → min 2 (c + lanes_in (map (λ (a : Object). strip_of a.place) xs) w) ≡ whole
    → min 2 (next + lanes_in (map (λ (a : Object). strip_of a.place) (take (length xs - 1) (drop 1 xs))) w) ≡ whole
unfolding lanes_in
count_more [] d w c next whole some is all = absurd (omega (arith, some))
count_more (x ∷ xs) d w c next whole some is all =
    let short : suc (length xs) - 1 ≡ length xs = omega arith in
    ap (λ (n : ℕ). min 2 (next + lanes_in (map (λ (a : Object). strip_of a.place) (take n xs)) w)) short
    ∙ (ap (λ (ys : List Object). min 2 (next + lanes_in (map (λ (a : Object). strip_of a.place) ys) w)) (take_whole xs)
    ∙ omega (arith, is, all))

-- all objects were counted
pub count_whole : (xs : List Object) (w c whole : ℕ) → length xs ≡ 0 → c ≤ 2 → min 2 (c + lanes_in (map (λ (a : Object). strip_of a.place) xs) w) ≡ whole → c ≡ whole
unfolding lanes_in
count_whole [] w c whole none small all = omega (arith, small, all)
count_whole (x ∷ xs) w c whole none small all = absurd (omega (arith, none))

-- ---- paths

told_at : (S : Shape) (xs : List Object) (o : ℕ) (a : Object) (d : Bool) → slice_get xs o ≡ Some a → get_or (map (λ (b : Object). is_sole_at S b.place) xs) o d ≡ is_sole_at S a.place
told_at S [] o a d e = absurd cc
told_at S (x ∷ xs) zero a d e = let same : x ≡ a = cc (e) in ap (λ (b : Object). is_sole_at S b.place) same
told_at S (x ∷ xs) (suc o) a d e = told_at S xs o a d e

pub path_at_place : (S : Shape) (k : Kind) (call : Call) (p : Place) → path_with S.steps k call p (is_sole_at S p) ≡ path_at S k call (Some p)
path_at_place S k call (Lane w s d) = refl
path_at_place S k call (Parts l f n b) = refl

-- the path that plans tell is the shape's
pub known_path : (S : Shape) (plans : List Bool) (o : ℕ) (a : Object) (sole : Bool) (call : Call) → ArePlansOf plans S → sole ≡ get_or plans o sole → slice_get S.objects o ≡ Some a → path_with S.steps a.kind call a.place sole ≡ plan_of S o call
known_path S plans o a sole call made told at =
    ap (λ (b : Bool). path_with S.steps a.kind call a.place b) (told ∙ (ap (λ (bs : List Bool). get_or bs o sole) made ∙ told_at S S.objects o a sole at))
    ∙ (path_at_place S a.kind call a.place ∙ (λ i. path_at S (sym (kind_of-at S o a at) i) call (sym (place_of-at S o a at) i)))
