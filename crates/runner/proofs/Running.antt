-- Scripts: line after line.
use Rattle.std.proofs.Common.{◌≡◌, ℕ, zero, suc, ◌+◌, ◌-◌, ◌<◌, ◌≤◌, List, [], ◌∷◌, ◌++◌, length, refl, ap, sym, ◌∙◌, subst, arith, append_assoc, length-append}
use Rattle.std.specs.Prelude.{map, slice_get, IsSomeAnd}
use Rattle.std.proofs.lemmas.List.{append-nil, map-append, length-map}
use Rattle.op_table.specs.declared.call.Call.{Call}
use Rattle.op_table.specs.declared.call.Reply.{Reply}
use Rattle.op_table.specs.Call.{CallFits}
use Rattle.place_core.specs.declared.places.Object.{Object}
use Rattle.place_core.specs.declared.script.Line.{Line}
use Rattle.place_core.specs.declared.shape.Shape.{Shape}
use Rattle.place_core.specs.Cells.{Cell}
use Rattle.place_core.specs.RepliesState.{RepliesState}
use Rattle.place_core.specs.Runs.{asked_of, asked_by, HasCall, ScriptFits}
use Rattle.place_core.specs.Shapes.{kind_in, kind_of, cells_of_shape}
use Rattle.place_core.proofs.EntryLists.{all_rest}
use Rattle.seat_views.specs.declared.view.Flight.TheVariants.{Idle}
use Rattle.seat_views.specs.States.{ArenaState, PassState, IsOf, IsKept}
use Rattle.seat_views.specs.Makes.{MakesCall, MakesCalls}
use Rattle.seat_views.proofs.Making.{nothing_makes_none, call_is_made, calls_join}
use Rattle.runner.specs.Scripts.{RunsLines, RunsUnkept}

-- the first `made` of all lines were run, and these are left
pub record RanSoFar (S : Shape) (all left : List Line) (made : ℕ) (p : PassState) (old new : RepliesState) (q : PassState) : Type 0 where
  pub done : List Line
  pub split : all ≡ done ++ left
  pub count : length done ≡ made
  pub ran : RunsLines S done p old new q

-- ---- one line more

runs_none : (S : Shape) (p : PassState) (old : RepliesState) → p.flight ≡ Idle → IsKept p → RunsLines S [] p old old p
runs_none S p old rest kept = record { replies = []; gained = sym (append-nil old.items); spare = (omega arith); made = nothing_makes_none S p rest kept }

runs_more : (S : Shape) (lines : List Line) (line : Line) (p : PassState) (old new later : RepliesState) (q : PassState) (r : Reply) (z : PassState)
    → RunsLines S lines p old new q → MakesCall S line.object line.call q r z → later.items ≡ new.items ++ r ∷ [] → later.spare + 1 ≡ new.spare
    → RunsLines S (lines ++ line ∷ []) p old later z
runs_more S lines line p old new later q r z h m items spare =
    let calls : MakesCalls S (asked_by lines) p h.replies q = h.made in
    let one = call_is_made S line.object line.call q r z calls.made.kept m in
    record {
      replies = h.replies ++ r ∷ [];
      gained = items ∙ (ap (λ (l : List Reply). l ++ r ∷ []) h.gained ∙ append_assoc old.items h.replies (r ∷ []));
      spare = let was : new.spare + length h.replies ≡ old.spare = h.spare in omega (arith, length-append h.replies (r ∷ []));
      made = subst (λ (l : List (ℕ × Call)). MakesCalls S l p (h.replies ++ r ∷ []) z) (sym (map-append asked_of lines (line ∷ [])))
          (calls_join S (asked_by lines) ((line.object, line.call) ∷ []) p h.replies q (r ∷ []) z calls one);
    }

-- ---- a whole script

pub script_starts : (S : Shape) (all lines : List Line) (p : PassState) (old : RepliesState) → lines ≡ all → p.flight ≡ Idle → IsKept p → RanSoFar S all lines 0 p old old p
script_starts S all lines p old whole rest kept = record { done = []; split = sym whole; count = refl; ran = runs_none S p old rest kept }

pub script_more : (S : Shape) (all lines left : List Line) (line : Line) (i : ℕ) (p : PassState) (old new later : RepliesState) (q : PassState) (r : Reply) (z : PassState)
    → RanSoFar S all lines i p old new q → lines ≡ line ∷ left → MakesCall S line.object line.call q r z → later.items ≡ new.items ++ r ∷ [] → later.spare + 1 ≡ new.spare
    → RanSoFar S all left (i + 1) p old later z
script_more S all lines left line i p old new later q r z h next m items spare = record {
  done = h.done ++ line ∷ [];
  split = h.split ∙ (ap (λ (l : List Line). h.done ++ l) next ∙ sym (append_assoc h.done (line ∷ []) left));
  count = length-append h.done (line ∷ []) ∙ ap (λ (n : ℕ). n + 1) h.count;
  ran = runs_more S h.done line p old new later q r z h.ran m items spare;
}

lengths : (S : Shape) (all left : List Line) (i : ℕ) (p : PassState) (old new : RepliesState) (q : PassState) → RanSoFar S all left i p old new q → length all ≡ i + length left
lengths S all left i p old new q h = ap length h.split ∙ (length-append h.done left ∙ ap (λ (n : ℕ). n + length left) h.count)

nothing_left : (left : List Line) → length left ≡ 0 → left ≡ []
nothing_left [] e = refl
nothing_left (x ∷ xs) e = absurd (omega arith)

pub script_ends : (S : Shape) (all left : List Line) (i : ℕ) (p : PassState) (old new : RepliesState) (q : PassState) → RanSoFar S all left i p old new q → i ≡ length all → RunsLines S all p old new q
script_ends S all left i p old new q h e =
    let none : left ≡ [] = nothing_left left (omega (arith, lengths S all left i p old new q h)) in
    let whole_is : all ≡ h.done = h.split ∙ (ap (λ (l : List Line). h.done ++ l) none ∙ append-nil h.done) in
    subst (λ (l : List Line). RunsLines S l p old new q) (sym whole_is) h.ran

-- ---- what the next call asks for

-- a line is left
pub line_left : (S : Shape) (all left : List Line) (i : ℕ) (p : PassState) (old new : RepliesState) (q : PassState) → RanSoFar S all left i p old new q → i < length all → left ≡ [] → ⊥
line_left S all left i p old new q h below none = let no_line : length left ≡ 0 = ap length none in omega (arith, lengths S all left i p old new q h)

-- there is room for its reply
pub room_left : (S : Shape) (all left : List Line) (i : ℕ) (p : PassState) (old new : RepliesState) (q : PassState) → RanSoFar S all left i p old new q → i < length all → length all ≤ old.spare → 0 < new.spare
room_left S all left i p old new q h below room =
    let t = h.ran in
    let was : new.spare + length t.replies ≡ old.spare = t.spare in
    let replied : length t.replies ≡ length (asked_by h.done) = t.made.made.count in
    let asked : length (asked_by h.done) ≡ length h.done = length-map h.done asked_of in
    let counted : length h.done ≡ i = h.count in
    omega arith

fits_at : (xs : List Object) (o : ℕ) (call : Call) → IsSomeAnd (slice_get (map (λ (a : Object). record { kind = a.kind; start = a.start }) xs) o) (λ (cell : Cell). CallFits cell.kind call)
    → (o < length xs) × CallFits (kind_in (slice_get xs o)) call
fits_at [] o call h = absurd h
fits_at (x ∷ xs) zero call h = (omega arith, h)
fits_at (x ∷ xs) (suc o) call h = let rest = fits_at xs o call h in let below : o < length xs = rest.0 in (omega arith, rest.1)

-- its object is there, and has the call
pub call_left : (S : Shape) (all lines left : List Line) (line : Line) (i : ℕ) (p : PassState) (old new : RepliesState) (q : PassState) → RanSoFar S all lines i p old new q → lines ≡ line ∷ left
    → ScriptFits (cells_of_shape S) all → (line.object < length S.objects) × CallFits (kind_of S line.object) line.call
call_left S all lines left line i p old new q h next fits =
    let cut : ScriptFits (cells_of_shape S) (h.done ++ line ∷ left) = subst (ScriptFits (cells_of_shape S)) (h.split ∙ ap (λ (l : List Line). h.done ++ l) next) fits in
    let here : HasCall (cells_of_shape S) (asked_of line) = (all_rest (λ (l : Line). HasCall (cells_of_shape S) (asked_of l)) h.done (line ∷ left) cut).0 in
    fits_at S.objects line.object line.call here

-- the pass is still of the arena, with nothing in flight
pub still_of : (a : ArenaState) (S : Shape) (all left : List Line) (i : ℕ) (p : PassState) (old new : RepliesState) (q : PassState) → RanSoFar S all left i p old new q → IsOf a p → IsOf a q
still_of a S all left i p old new q h of = let rest = h.ran.made.made.rest in (ap (λ (s : PassState). s.arena) rest ∙ of.0, ap (λ (s : PassState). s.shape) rest ∙ of.1)

pub still_idle : (S : Shape) (all left : List Line) (i : ℕ) (p : PassState) (old new : RepliesState) (q : PassState) → RanSoFar S all left i p old new q → q.flight ≡ Idle
still_idle S all left i p old new q h = ap (λ (s : PassState). s.flight) h.ran.made.made.rest

-- ---- a whole script whose replies are kept by nobody

-- the same as where they are kept, in room for all of them
pub record RanUnkept (S : Shape) (all left : List Line) (made : ℕ) (p q : PassState) : Type 0 where
  pub kept : RepliesState
  pub ran : RanSoFar S all left made p (record { items = []; spare = length all }) kept q

pub unkept_starts : (S : Shape) (all lines : List Line) (p : PassState) → lines ≡ all → p.flight ≡ Idle → IsKept p → RanUnkept S all lines 0 p p
unkept_starts S all lines p whole rest kept = record {
  kept = record { items = []; spare = length all };
  ran = script_starts S all lines p (record { items = []; spare = length all }) whole rest kept;
}

pub unkept_more : (S : Shape) (all lines left : List Line) (line : Line) (i : ℕ) (p q : PassState) (r : Reply) (z : PassState)
    → RanUnkept S all lines i p q → lines ≡ line ∷ left → MakesCall S line.object line.call q r z → RanUnkept S all left (i + 1) p z
unkept_more S all lines left line i p q r z h next m =
    let below : i < length all = omega (arith, lengths S all lines i p (record { items = []; spare = length all }) h.kept q h.ran, ap length next) in
    let free : 0 < h.kept.spare = room_left S all lines i p (record { items = []; spare = length all }) h.kept q h.ran below (omega arith) in
    record {
      kept = record { items = h.kept.items ++ r ∷ []; spare = h.kept.spare - 1 };
      ran = script_more S all lines left line i p (record { items = []; spare = length all }) h.kept (record { items = h.kept.items ++ r ∷ []; spare = h.kept.spare - 1 }) q r z h.ran next m refl (omega arith);
    }

pub unkept_ends : (S : Shape) (all left : List Line) (i : ℕ) (p q : PassState) → RanUnkept S all left i p q → i ≡ length all → RunsUnkept S all p q
unkept_ends S all left i p q h e =
    let whole = script_ends S all left i p (record { items = []; spare = length all }) h.kept q h.ran e in
    record { replies = whole.replies; made = whole.made }
