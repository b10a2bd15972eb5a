-- A plan that says one step says one that makes the call.
use Rattle.std.proofs.Common.{◌≡◌, ℕ, Bool, true, false, if◌then◌else◌, refl, sym, ◌∙◌, Option, Some, None}
use Rattle.op_table.specs.declared.call.Call.{Call}
use Rattle.op_table.specs.declared.order.StepSet.{StepSet}
use Rattle.place_core.specs.declared.places.Place.{Place}
use Rattle.place_core.specs.declared.places.Place.TheVariants.{Lane, Parts}
use Rattle.place_core.specs.declared.places.WordOp.{WordOp}
use Rattle.place_core.specs.declared.places.Path.{Path}
use Rattle.place_core.specs.declared.places.Path.TheVariants.{One, Loop}
use Rattle.place_core.specs.declared.shape.Shape.{Shape}
use Rattle.place_core.specs.Shapes.{place_of, kind_of, is_sole}
use Rattle.place_core.specs.Operations.{has_step, op_for, path_by, path_at, plan_of, OpServes}
use Rattle.layout_plan.specs.Laws.{OneServes}

chosen : (b : Bool) (op done : WordOp) → (if b then One op else Loop) ≡ One done → Some op ≡ Some done
chosen true op done e = cc
chosen false op done e = absurd cc

by_one : (steps : StepSet) (x : Option WordOp) (done : WordOp) → path_by steps x ≡ One done → x ≡ Some done
by_one steps None done e = absurd cc
by_one steps (Some op) done e = chosen (has_step steps op) op done e

at_place : (S : Shape) (o : ℕ) (call : Call) (done : WordOp) (p : Option Place) → place_of S o ≡ p → path_at S (kind_of S o) call p ≡ One done → OpServes S o call done
at_place S o call done None at e = absurd cc
at_place S o call done (Some (Parts l f n b)) at e = absurd cc
at_place S o call done (Some (Lane w s d)) at e = record { word = w; shift = s; width = d; lane = at; serves = by_one S.steps (op_for (kind_of S o) s d (is_sole S w) call) done e }

pub one_serves : OneServes
one_serves S o call done e = at_place S o call done (place_of S o) refl e

pub path_serves : (S : Shape) (o : ℕ) (call : Call) (path : Path) → path ≡ plan_of S o call → (done : WordOp) → path ≡ One done → OpServes S o call done
path_serves S o call path is done e = one_serves S o call done (sym is ∙ e)
