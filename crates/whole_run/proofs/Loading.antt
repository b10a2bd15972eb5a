-- Loads that are made one after another.
use Rattle.std.proofs.Common.{◌≡◌, ℕ, ◌+◌, ◌≤◌, List, [], ◌∷◌, ◌++◌, length, refl, ap, sym, ◌∙◌, subst, arith, append_assoc}
use Rattle.std.proofs.lemmas.List.{append-nil, length-map}
use Rattle.op_table.specs.declared.call.Call.{Call}
use Rattle.op_table.specs.declared.call.Call.TheVariants.{Load}
use Rattle.op_table.specs.declared.call.Reply.{Reply}
use Rattle.place_core.specs.declared.places.Object.{Object}
use Rattle.place_core.specs.declared.shape.Shape.{Shape}
use Rattle.place_core.specs.Cells.{Cell}
use Rattle.place_core.specs.RepliesState.{RepliesState}
use Rattle.place_core.specs.Runs.{loads_from}
use Rattle.place_core.specs.Shapes.{cells_of_shape}
use Rattle.seat_views.specs.declared.view.Flight.TheVariants.{Idle}
use Rattle.seat_views.specs.States.{ArenaState, PassState, IsOf, IsKept}
use Rattle.seat_views.specs.Makes.{MakesCall, MakesCalls}
use Rattle.seat_views.proofs.Making.{nothing_makes_none, call_is_made, calls_join}

pub length_cells : (S : Shape) → length (cells_of_shape S) ≡ length S.objects
length_cells S = length-map S.objects (λ (a : Object). record { kind = a.kind; start = a.start })

-- how many objects the arena tells
pub count_is : (S Z : Shape) (count : ℕ) → count ≡ length Z.objects → Z ≡ S → count ≡ length (cells_of_shape S)
count_is S Z count is same = is ∙ (ap (λ (X : Shape). length X.objects) same ∙ sym (length_cells S))

-- the loads of the objects before o were made, these cells are left, and there is room for their replies
pub record LoadsSoFar (a : ArenaState) (p : PassState) (o : ℕ) (replies : RepliesState) (q : PassState) : Type 0 where
  pub calls : List (ℕ × Call)
  pub left : List Cell
  pub made : MakesCalls a.shape calls p replies.items q
  pub rest : calls ++ loads_from o left ≡ loads_from 0 (cells_of_shape a.shape)
  pub size : o + length left ≡ length (cells_of_shape a.shape)
  pub room : length left ≤ replies.spare
  pub of_arena : IsOf a q
  pub idle : q.flight ≡ Idle

pub loads_start : (a : ArenaState) (p : PassState) (replies : RepliesState) → IsOf a p → p.flight ≡ Idle → IsKept p → replies.items ≡ [] → length (cells_of_shape a.shape) ≤ replies.spare → LoadsSoFar a p 0 replies p
loads_start a p replies here idle kept empty room = record {
  calls = [];
  left = cells_of_shape a.shape;
  made = subst (λ (rs : List Reply). MakesCalls a.shape [] p rs p) (sym empty) (nothing_makes_none a.shape p idle kept);
  rest = refl;
  size = omega arith;
  room = room;
  of_arena = here;
  idle = idle;
}

more_loads : (a : ArenaState) (p : PassState) (o : ℕ) (replies more : RepliesState) (r : Reply) (q z : PassState) (h : LoadsSoFar a p o replies q) (left : List Cell) → h.left ≡ left → o + 1 ≤ length (cells_of_shape a.shape)
    → MakesCall a.shape o Load q r z → more.items ≡ replies.items ++ r ∷ [] → more.spare + 1 ≡ replies.spare → LoadsSoFar a p (o + 1) more z
more_loads a p o replies more r q z h [] is below made items spare = absurd (omega (arith, h.size, ap length is))
more_loads a p o replies more r q z h (cell ∷ left) is below made items spare =
    let one = call_is_made a.shape o Load q r z h.made.made.kept made in record {
      calls = h.calls ++ (o, Load) ∷ [];
      left = left;
      made = subst (λ (rs : List Reply). MakesCalls a.shape (h.calls ++ (o, Load) ∷ []) p rs z) (sym items) (calls_join a.shape h.calls ((o, Load) ∷ []) p replies.items q (r ∷ []) z h.made one);
      rest = append_assoc h.calls ((o, Load) ∷ []) (loads_from (o + 1) left) ∙ (ap (λ (l : List Cell). h.calls ++ loads_from o l) (sym is) ∙ h.rest);
      size = omega (arith, h.size, ap length is);
      room = omega (arith, h.room, ap length is);
      of_arena = (ap (λ (s : PassState). s.arena) made.made.rest ∙ h.of_arena.0, ap (λ (s : PassState). s.shape) made.made.rest ∙ h.of_arena.1);
      idle = ap (λ (s : PassState). s.flight) made.made.rest;
    }

pub loads_more : (a : ArenaState) (p : PassState) (o : ℕ) (replies more : RepliesState) (r : Reply) (q z : PassState) → LoadsSoFar a p o replies q → o + 1 ≤ length (cells_of_shape a.shape)
    → MakesCall a.shape o Load q r z → more.items ≡ replies.items ++ r ∷ [] → more.spare + 1 ≡ replies.spare → LoadsSoFar a p (o + 1) more z
loads_more a p o replies more r q z h below made items spare = more_loads a p o replies more r q z h h.left refl below made items spare

end_loads : (a : ArenaState) (p : PassState) (o : ℕ) (replies : RepliesState) (q : PassState) (h : LoadsSoFar a p o replies q) (left : List Cell) → h.left ≡ left → length (cells_of_shape a.shape) ≤ o
    → MakesCalls a.shape (loads_from 0 (cells_of_shape a.shape)) p replies.items q
end_loads a p o replies q h [] is all = subst (λ (calls : List (ℕ × Call)). MakesCalls a.shape calls p replies.items q) (sym (append-nil h.calls) ∙ (ap (λ (l : List Cell). h.calls ++ loads_from o l) (sym is) ∙ h.rest)) h.made
end_loads a p o replies q h (cell ∷ left) is all = absurd (omega (arith, h.size, ap length is))

pub loads_end : (a : ArenaState) (p : PassState) (o : ℕ) (replies : RepliesState) (q : PassState) → LoadsSoFar a p o replies q → length (cells_of_shape a.shape) ≤ o → MakesCalls a.shape (loads_from 0 (cells_of_shape a.shape)) p replies.items q
loads_end a p o replies q h all = end_loads a p o replies q h h.left refl all
