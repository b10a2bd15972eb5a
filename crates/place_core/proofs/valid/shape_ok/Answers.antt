use Rattle.std.proofs.Common.{subst, sym}
use Rattle.std.specs.List.{AllByRecursion}
use Rattle.place_core.specs.Validity.{IsSized, IsObject, AllApart}
use Rattle.place_core.proofs.ShapeTests.{objects_apart, shape_is}
use Rattle.place_core.proofs.valid.shape_ok.Goals as goal

-- where the sizes and each object passed, the last test decides
pub returns : goal.returns
returns c =
    let S = c.args.shape.now in
    let listed = c.as_slice-objects.ensures in
    let sized : IsSized S = c.is_sized.ensures.0 c.if-not-is_sized.false in
    let each : AllByRecursion (IsObject S) S.objects = subst (AllByRecursion (IsObject S)) listed (c.are_objects.ensures.0 c.if-not-are_objects.false) in (
      (λ passed. shape_is S sized each (subst AllApart listed (c.are_apart.ensures.0 passed))),
      (λ ok. c.are_apart.ensures.1 (subst AllApart (sym listed) (objects_apart S ok))),
    )
