-- The tallies after all scripts, object by object.
use Rattle.std.proofs.Common.{◌≡◌, ◌≢◌, ℕ, zero, suc, ◌+◌, ◌<◌, Bool, List, [], ◌∷◌, ◌++◌, length, set, map, take, refl, ap, sym, ◌∙◌, subst, arith, eq-eqb, ne_eqb}
use Rattle.std.specs.Prelude.{if◌then◌else◌, Some, None, slice_get}
use Rattle.std.specs.declared.option.Option.{Option}
use Rattle.std.specs.Option.{option_map}
use Rattle.std.proofs.lemmas.Option.{slice_get-map}
use Rattle.std.proofs.lemmas.List.{length-map}
use Rattle.std.proofs.lemmas.Iterator.Adapters.{option_map_id}
use mathlib.Core.Logic.{dite}
use native.Mathlib.Decide.{ℕ_discrete}
use Rattle.op_table.specs.declared.kind.Kind.{Kind}
use Rattle.op_table.specs.declared.call.Call.{Call}
use Rattle.place_core.specs.declared.places.Object.{Object}
use Rattle.place_core.specs.declared.script.Line.{Line}
use Rattle.place_core.specs.declared.shape.Shape.{Shape}
use Rattle.place_core.specs.Cells.{Cell}
use Rattle.place_core.specs.Shapes.{kind_of, cells_of_shape}
use Rattle.place_core.proofs.ShapeFacts.{kind_of-at}
use Rattle.ledger_sums.specs.declared.tally.Tally.{Tally}
use Rattle.ledger_sums.specs.Fixed.{calls_on, lines_of, after_calls, fixed_by, fixed_value, fixed_from, fixed_values_of}
use Rattle.ledger_sums.specs.Tallies.{with_call, tally_of, first_tallies, put_call, next_tallies, tallies_after, tallies_end, settled}
use Rattle.ledger_sums.proofs.Mixes.{mix_after, told_of_calls}

-- ---- lists by index

module _ {X : Type 0} where
  put_same : (xs : List X) (o : ℕ) (x y : X) → slice_get xs o ≡ Some x → slice_get (set xs o y) o ≡ Some y
  put_same [] o x y at = absurd cc
  put_same (z ∷ xs) zero x y at = refl
  put_same (z ∷ xs) (suc o) x y at = put_same xs o x y at

  put_other : (xs : List X) (i o : ℕ) (y : X) → i ≢ o → slice_get (set xs i y) o ≡ slice_get xs o
  put_other [] i o y other = refl
  put_other (z ∷ xs) zero zero y other = absurd (other refl)
  put_other (z ∷ xs) zero (suc o) y other = refl
  put_other (z ∷ xs) (suc i) zero y other = refl
  put_other (z ∷ xs) (suc i) (suc o) y other = put_other xs i o y (λ same. other (ap suc same))

  pub same_items : (xs ys : List X) → ((o : ℕ) → slice_get xs o ≡ slice_get ys o) → xs ≡ ys
  same_items [] [] same = refl
  same_items [] (y ∷ ys) same = absurd (cc (same 0))
  same_items (x ∷ xs) [] same = absurd (cc (same 0))
  same_items (x ∷ xs) (y ∷ ys) same = let head : x ≡ y = cc (same 0) in let tail = same_items xs ys (λ o. same (suc o)) in cc (head, tail)

-- ---- one call

counted : (S : Shape) (tallies : List Tally) (line : Line) (z : Option Tally) → slice_get tallies line.object ≡ z → slice_get (put_call S tallies line z) line.object ≡ option_map (λ t. with_call (kind_of S line.object) t line.call) z
counted S tallies line None at = at
counted S tallies line (Some t) at = put_same tallies line.object t (with_call (kind_of S line.object) t line.call) at

-- a call is added to its own object's tally
next_own : (S : Shape) (tallies : List Tally) (line : Line) (o : ℕ) → line.object ≡ o → slice_get (next_tallies S tallies line) o ≡ option_map (λ t. with_call (kind_of S o) t line.call) (slice_get tallies o)
next_own S tallies line o own =
    subst (λ (n : ℕ). slice_get (next_tallies S tallies line) n ≡ option_map (λ t. with_call (kind_of S n) t line.call) (slice_get tallies n)) own
    (counted S tallies line (slice_get tallies line.object) refl)

passed : (S : Shape) (tallies : List Tally) (line : Line) (o : ℕ) (z : Option Tally) → line.object ≢ o → slice_get (put_call S tallies line z) o ≡ slice_get tallies o
passed S tallies line o None other = refl
passed S tallies line o (Some t) other = put_other tallies line.object o (with_call (kind_of S line.object) t line.call) other

-- and to no other
next_other : (S : Shape) (tallies : List Tally) (line : Line) (o : ℕ) → line.object ≢ o → slice_get (next_tallies S tallies line) o ≡ slice_get tallies o
next_other S tallies line o other = passed S tallies line o (slice_get tallies line.object) other

-- ---- many calls

abbrev pub tally_after : Kind → List Call → Tally → Tally
tally_after kind calls t = record { mix = mix_after t.mix calls; value = after_calls kind t.value calls }

map_twice : {A B C : Type 0} (f : A → B) (g : B → C) (z : Option A) → option_map g (option_map f z) ≡ option_map (λ x. g (f x)) z
map_twice f g None = refl
map_twice f g (Some x) = refl

pub tallies_after-at : (S : Shape) (tallies : List Tally) (lines : List Line) (o : ℕ) → slice_get (tallies_after S tallies lines) o ≡ option_map (tally_after (kind_of S o) (calls_on o lines)) (slice_get tallies o)
tallies_after-at S tallies [] o = sym (option_map_id (slice_get tallies o))
tallies_after-at S tallies (line ∷ lines) o = dite (ℕ_discrete line.object o)
    (λ own.
    tallies_after-at S (next_tallies S tallies line) lines o
    ∙ ap (option_map (tally_after (kind_of S o) (calls_on o lines))) (next_own S tallies line o own)
    ∙ map_twice (λ t. with_call (kind_of S o) t line.call) (tally_after (kind_of S o) (calls_on o lines)) (slice_get tallies o)
    ∙ ap (λ (b : Bool). option_map (tally_after (kind_of S o) (if b then line.call ∷ calls_on o lines else calls_on o lines)) (slice_get tallies o)) (sym (eq-eqb line.object o own)))
    (λ other.
    tallies_after-at S (next_tallies S tallies line) lines o
    ∙ ap (option_map (tally_after (kind_of S o) (calls_on o lines))) (next_other S tallies line o other)
    ∙ ap (λ (b : Bool). option_map (tally_after (kind_of S o) (if b then line.call ∷ calls_on o lines else calls_on o lines)) (slice_get tallies o)) (sym (ne_eqb line.object o other)))

tallies_after-append : (S : Shape) (tallies : List Tally) (xs ys : List Line) → tallies_after S tallies (xs ++ ys) ≡ tallies_after S (tallies_after S tallies xs) ys
tallies_after-append S tallies [] ys = refl
tallies_after-append S tallies (x ∷ xs) ys = tallies_after-append S (next_tallies S tallies x) xs ys

tallies_end-lines : (S : Shape) (tallies : List Tally) (scripts : List (List Line)) → tallies_end S tallies scripts ≡ tallies_after S tallies (lines_of scripts)
tallies_end-lines S tallies [] = refl
tallies_end-lines S tallies (script ∷ scripts) =
    tallies_end-lines S (tallies_after S tallies script) scripts ∙ sym (tallies_after-append S tallies script (lines_of scripts))

-- ---- the fixed values, object by object

fixed_at : List Line → ℕ → Cell → Option ℕ
fixed_at lines o cell = fixed_by (Some cell) (calls_on o lines)

pub fixed_from-at : (lines : List Line) (n o : ℕ) (cells : List Cell) → slice_get (fixed_from lines n cells) o ≡ option_map (λ cell. fixed_by (Some cell) (calls_on (n + o) lines)) (slice_get cells o)
fixed_from-at lines n o [] = refl
fixed_from-at lines n zero (cell ∷ cells) = ap (λ (m : ℕ). Some (fixed_by (Some cell) (calls_on m lines))) (let e : n ≡ n + 0 = omega arith in e)
fixed_from-at lines n (suc o) (cell ∷ cells) =
    fixed_from-at lines (n + 1) o cells
    ∙ ap (λ (m : ℕ). option_map (λ c. fixed_by (Some c) (calls_on m lines)) (slice_get cells o)) (let e : n + 1 + o ≡ n + suc o = omega arith in e)

-- one value a cell
pub length-fixed_from : (lines : List Line) (n : ℕ) (cells : List Cell)
    → length (fixed_from lines n cells) ≡ length cells
length-fixed_from lines n [] = refl
length-fixed_from lines n (cell ∷ cells) = ap suc (length-fixed_from lines (n + 1) cells)

-- and one an object of a shape
pub length-fixed_values_of : (S : Shape) (scripts : List (List Line)) → length (fixed_values_of (cells_of_shape S) scripts) ≡ length S.objects
length-fixed_values_of S scripts =
    length-fixed_from (lines_of scripts) 0 (cells_of_shape S) ∙ length-map S.objects (λ (a : Object). record { kind = a.kind; start = a.start })

-- by the objects of a shape
told_at : (S : Shape) (lines : List Line) (o : ℕ) (z : Option Object) → slice_get S.objects o ≡ z
    → option_map settled (option_map (tally_after (kind_of S o) (calls_on o lines)) (option_map tally_of z)) ≡ option_map (λ cell. fixed_by (Some cell) (calls_on (0 + o) lines)) (option_map (λ (a : Object). record { kind = a.kind; start = a.start }) z)
told_at S lines o None at = refl
told_at S lines o (Some a) at =
    ap (λ (kind : Kind). Some (settled (tally_after kind (calls_on o lines) (tally_of a)))) (kind_of-at S o a at)
    ∙ ap Some (told_of_calls (calls_on o lines) (after_calls a.kind a.start (calls_on o lines)))
    ∙ ap (λ (m : ℕ). Some (fixed_by (Some (record { kind = a.kind; start = a.start })) (calls_on m lines))) (let e : o ≡ 0 + o = omega arith in e)

settled-at : (S : Shape) (lines : List Line) (o : ℕ) → slice_get (map settled (tallies_after S (first_tallies S.objects) lines)) o ≡ slice_get (fixed_from lines 0 (cells_of_shape S)) o
settled-at S lines o =
    slice_get-map settled (tallies_after S (first_tallies S.objects) lines) o
    ∙ ap (option_map settled) (tallies_after-at S (first_tallies S.objects) lines o)
    ∙ ap (λ (z : Option Tally). option_map settled (option_map (tally_after (kind_of S o) (calls_on o lines)) z)) (slice_get-map tally_of S.objects o)
    ∙ told_at S lines o (slice_get S.objects o) refl
    ∙ ap (option_map (λ cell. fixed_by (Some cell) (calls_on (0 + o) lines))) (sym (slice_get-map (λ (a : Object). record { kind = a.kind; start = a.start }) S.objects o))
    ∙ sym (fixed_from-at lines 0 o (cells_of_shape S))

-- what the tallies of all scripts tell is the list of fixed values
pub settled-tallies_end : (S : Shape) (scripts : List (List Line)) → map settled (tallies_end S (first_tallies S.objects) scripts) ≡ fixed_values_of (cells_of_shape S) scripts
settled-tallies_end S scripts =
    ap (map settled) (tallies_end-lines S (first_tallies S.objects) scripts)
    ∙ same_items _ _ (settled-at S (lines_of scripts))

-- ---- the list of fixed values at a number

item_there : {X : Type 0} (o : ℕ) (xs : List X) → o < length xs → slice_get xs o ≢ None
item_there o [] lt none = omega (arith, lt)
item_there zero (x ∷ xs) lt none = cc
item_there (suc o) (x ∷ xs) lt none = item_there o xs (omega (arith, lt)) none

at_number : (lines : List Line) (o : ℕ) (cells : List Cell) (z : Option Cell) → slice_get cells o ≡ z → o < length cells → option_map (λ cell. fixed_by (Some cell) (calls_on o lines)) z ≡ Some (fixed_by z (calls_on o lines))
at_number lines o cells None at below = absurd (item_there o cells below at)
at_number lines o cells (Some cell) at below = refl

pub fixed_values_of-at : (cells : List Cell) (scripts : List (List Line)) (o : ℕ) → o < length cells → slice_get (fixed_values_of cells scripts) o ≡ Some (fixed_value cells scripts o)
fixed_values_of-at cells scripts o below =
    fixed_from-at (lines_of scripts) 0 o cells
    ∙ ap (λ (m : ℕ). option_map (λ cell. fixed_by (Some cell) (calls_on m (lines_of scripts))) (slice_get cells o)) (let e : 0 + o ≡ o = omega arith in e)
    ∙ at_number (lines_of scripts) o cells (slice_get cells o) refl below

-- ---- a list that was written in place

take_front : {X : Type 0} (new rest : List X) → take (length new) (new ++ rest) ≡ new
take_front [] rest = refl
take_front (x ∷ new) rest = ap (λ l. x ∷ l) (take_front new rest)

pub take_written : {X : Type 0} (new rest : List X) (n : ℕ) → length new ≡ n → take n (new ++ rest) ≡ new
take_written new rest n whole = ap (λ (k : ℕ). take k (new ++ rest)) (sym whole) ∙ take_front new rest
