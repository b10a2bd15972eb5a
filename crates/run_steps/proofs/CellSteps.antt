-- The cells after one more entry are those after its move.
use Rattle.std.proofs.Common.{◌≡◌, ◌≢◌, ℕ, zero, suc, ◌+◌, ◌%◌, ◌<◌, ◌≤◌, ◌==◌, Bool, true, false, not, ◌||◌, ◌&&◌, if◌then◌else◌, List, [], ◌∷◌, ◌++◌, length, Option, Some, None, refl, ap, sym, ◌∙◌, subst, arith, length-append}
use Rattle.std.specs.Prelude.{slice_get, slice_index, map}
use Rattle.std.specs.List.{range_with_len}
use Rattle.std.proofs.lemmas.List.FromFn.{get_or-map-range_with_len}
use mathlib.Core.Logic.{dite}
use native.Mathlib.Decide.{ℕ_discrete}
use borrow.Author.Tests.{eqb-true, eq-eqb}
use Rattle.place_core.specs.declared.entry.Entry.{Entry}
use Rattle.place_core.specs.declared.places.Object.{Object}
use Rattle.place_core.specs.declared.places.Place.{Place}
use Rattle.place_core.specs.declared.places.Place.TheVariants.{Lane, Parts}
use Rattle.place_core.specs.declared.script.Line.{Line}
use Rattle.place_core.specs.declared.shape.Shape.{Shape}
use Rattle.place_core.specs.Cells.{Cell, left_by, value_of, entries_by}
use Rattle.place_core.specs.Runs.{replies_by}
use Rattle.place_core.specs.Shapes.{place_of, place_in, kind_of, kind_in, cells_of_shape, word_of}
use Rattle.place_core.specs.WordSums.{one_if}
use Rattle.place_core.proofs.Earning.{change_is_of_lane}
use Rattle.place_core.proofs.CellValues.{value_of-own, value_of-other}
use Rattle.run_steps.specs.Standing.{weak_word, changed_since, changed_in, changes_word, made_count, line_at, may_fail, reply_number, told_thread, told_place, cell_of, cell_count, state_of}
use Rattle.run_steps.specs.declared.moves.Move.{Move}
use Rattle.run_steps.specs.Steps.{lies_at, moves_word, cell_after, state_after}
use Rattle.run_steps.proofs.Lists.{eq-false, at_last, at_other, map-snoc, length-map'}
use Rattle.run_steps.proofs.ChangedSince.{changed_since-snoc}
use Rattle.run_steps.proofs.NextEntries.{entries_own, entries_other}
use Rattle.run_steps.proofs.Cells.{by_sort-count, by_sort-failure, by_sort-value, by_sort-told, by_sort-same}

-- ---- tests

both_ways : (a b : Bool) → (a ≡ true → b ≡ true) → (b ≡ true → a ≡ true) → a ≡ b
both_ways true b f g = sym (f refl)
both_ways false true f g = g refl
both_ways false false f g = refl

differs : (p q : ℕ) → not (p == q) ≡ true → p ≢ q
differs p q h e = let same : (p == q) ≡ true = eq-eqb p q e in let clash : false ≡ true = ap not (sym same) ∙ h in cc

is_other : (p q : ℕ) → p ≢ q → not (p == q) ≡ true
is_other p q ne = ap not (eq-false p q ne)

both_true : (a b : Bool) → (a && b) ≡ true → (a ≡ true) × (b ≡ true)
both_true true b h = (refl, h)
both_true false b h = let clash : false ≡ true = h in absurd cc

and_true : (a b : Bool) → a ≡ true → b ≡ true → (a && b) ≡ true
and_true true b e h = h
and_true false b e h = let clash : false ≡ true = e in absurd cc

one_bit : (was changes : Bool) → one_if (was || changes) ≡ (if (one_if was == 1) || changes then 1 else 0)
one_bit true changes = refl
one_bit false true = refl
one_bit false false = refl

-- ---- objects and cells

-- an object that lies somewhere has a cell of its kind
cell_in : (xs : List Object) (o : ℕ) (p : Place) → place_in (slice_get xs o) ≡ Some p
    → (cell : Cell) × (slice_get (map (λ (a : Object). record { kind = a.kind; start = a.start }) xs) o ≡ Some cell) × (kind_in (slice_get xs o) ≡ cell.kind)
cell_in [] o p e = absurd cc
cell_in (a ∷ xs) zero p e = (record { kind = a.kind; start = a.start }, refl, refl)
cell_in (a ∷ xs) (suc o) p e = cell_in xs o p e

-- the place lies in the word
lies_in_word : (w : ℕ) (p : Option Place) → lies_at (Some w) p ≡ true → (s : ℕ) × (d : ℕ) × (p ≡ Some (Lane w s d))
lies_in_word w None h = let clash : false ≡ true = h in absurd cc
lies_in_word w (Some (Lane v s d)) h = (s, d, ap (λ z. Some (Lane z s d)) (eqb-true v w h))
lies_in_word w (Some (Parts l f n b)) h = let clash : false ≡ true = h in absurd cc

-- the move of an entry of thread t
abbrev pub move_for : Shape → List Entry → Entry → ℕ → Move
move_for S G x t = record {
  thread = t;
  place = made_count G t;
  object = x.object;
  value = value_of (cells_of_shape S) G x.object;
  told = x.reply;
  left = value_of (cells_of_shape S) (G ++ x ∷ []) x.object;
}

module _ (S : Shape) (scripts : List (List Line)) (kept : ℕ) (G : List Entry) where
  -- a cell of a state
  pub state_at : (i : ℕ) → i < cell_count S scripts kept → slice_index (state_of S scripts kept G) i ≡ cell_of S scripts G i
  state_at i within = get_or-map-range_with_len (cell_of S scripts G) 0 (cell_count S scripts kept) i i 0 within (omega arith)

  pub count_at : (u : ℕ) → u < length scripts → slice_index (state_of S scripts kept G) u ≡ made_count G u
  count_at u within = state_at u (omega arith) ∙ by_sort-count (length scripts) (length S.objects) (λ (t : ℕ). made_count G t) (λ (t : ℕ). one_if (may_fail S scripts G t)) (λ (o : ℕ). value_of (cells_of_shape S) G o)
      (λ (r : ℕ). reply_number (r % 2) (slice_get (replies_by G (told_thread (length scripts) r + 1)) (told_place (length scripts) r))) u within

  pub failure_at : (u : ℕ) → u < length scripts → slice_index (state_of S scripts kept G) (length scripts + u) ≡ one_if (may_fail S scripts G u)
  failure_at u within = state_at (length scripts + u) (omega arith) ∙ by_sort-failure (length scripts) (length S.objects) (λ (t : ℕ). made_count G t) (λ (t : ℕ). one_if (may_fail S scripts G t)) (λ (o : ℕ). value_of (cells_of_shape S) G o)
      (λ (r : ℕ). reply_number (r % 2) (slice_get (replies_by G (told_thread (length scripts) r + 1)) (told_place (length scripts) r))) u within

  pub value_at : (o : ℕ) → o < length S.objects → slice_index (state_of S scripts kept G) (length scripts + length scripts + o) ≡ value_of (cells_of_shape S) G o
  value_at o within = state_at (length scripts + length scripts + o) (omega arith) ∙ by_sort-value (length scripts) (length S.objects) (λ (t : ℕ). made_count G t) (λ (t : ℕ). one_if (may_fail S scripts G t)) (λ (o : ℕ). value_of (cells_of_shape S) G o)
      (λ (r : ℕ). reply_number (r % 2) (slice_get (replies_by G (told_thread (length scripts) r + 1)) (told_place (length scripts) r))) o within

  pub told_at : (r : ℕ) → length scripts + length scripts + length S.objects + r < cell_count S scripts kept → slice_index (state_of S scripts kept G) (length scripts + length scripts + length S.objects + r)
      ≡ reply_number (r % 2) (slice_get (replies_by G (told_thread (length scripts) r + 1)) (told_place (length scripts) r))
  told_at r within = state_at (length scripts + length scripts + length S.objects + r) within ∙ by_sort-told (length scripts) (length S.objects) (λ (t : ℕ). made_count G t) (λ (t : ℕ). one_if (may_fail S scripts G t)) (λ (o : ℕ). value_of (cells_of_shape S) G o)
      (λ (r : ℕ). reply_number (r % 2) (slice_get (replies_by G (told_thread (length scripts) r + 1)) (told_place (length scripts) r))) r

-- a change of the word, by the entry's object
pub changes_as_moves : (S : Shape) (w : ℕ) (G : List Entry) (x : Entry) (t : ℕ) → changes_word S w G x ≡ moves_word S (Some w) (move_for S G x t)
changes_as_moves S w G x t = both_ways (changes_word S w G x) (moves_word S (Some w) (move_for S G x t)) there back
  where
    there : changes_word S w G x ≡ true → moves_word S (Some w) (move_for S G x t) ≡ true
    there changed =
        let lane = (change_is_of_lane S w G x).0 (differs (word_of S (G ++ x ∷ []) w) (word_of S G w) changed) in
        let cell = cell_in S.objects x.object (Lane w lane.shift lane.width) lane.lane in
        let left : value_of (cells_of_shape S) (G ++ x ∷ []) x.object ≡ left_by cell.0.kind x (value_of (cells_of_shape S) G x.object) = value_of-own (cells_of_shape S) G x x.object cell.0 cell.1 refl in
        let left' : value_of (cells_of_shape S) (G ++ x ∷ []) x.object ≡ left_by (kind_of S x.object) x (value_of (cells_of_shape S) G x.object) = left ∙ ap (λ k. left_by k x (value_of (cells_of_shape S) G x.object)) (sym cell.2) in
        and_true (lies_at (Some w) (place_of S x.object)) (not (value_of (cells_of_shape S) (G ++ x ∷ []) x.object == value_of (cells_of_shape S) G x.object))
        (subst (λ p. lies_at (Some w) p ≡ true) (sym lane.lane) (eq-eqb w w refl))
        (is_other (value_of (cells_of_shape S) (G ++ x ∷ []) x.object) (value_of (cells_of_shape S) G x.object) (λ e. lane.other (sym left' ∙ e)))

    back : moves_word S (Some w) (move_for S G x t) ≡ true → changes_word S w G x ≡ true
    back moved =
        let facts = both_true (lies_at (Some w) (place_of S x.object)) (not (value_of (cells_of_shape S) (G ++ x ∷ []) x.object == value_of (cells_of_shape S) G x.object)) moved in
        let lane = lies_in_word w (place_of S x.object) facts.0 in
        let cell = cell_in S.objects x.object (Lane w lane.0 lane.1) lane.2 in
        let left : value_of (cells_of_shape S) (G ++ x ∷ []) x.object ≡ left_by cell.0.kind x (value_of (cells_of_shape S) G x.object) = value_of-own (cells_of_shape S) G x x.object cell.0 cell.1 refl in
        let left' : value_of (cells_of_shape S) (G ++ x ∷ []) x.object ≡ left_by (kind_of S x.object) x (value_of (cells_of_shape S) G x.object) = left ∙ ap (λ k. left_by k x (value_of (cells_of_shape S) G x.object)) (sym cell.2) in
        let other = differs (value_of (cells_of_shape S) (G ++ x ∷ []) x.object) (value_of (cells_of_shape S) G x.object) facts.1 in
        is_other (word_of S (G ++ x ∷ []) w) (word_of S G w) ((change_is_of_lane S w G x).1 (record { shift = lane.0; width = lane.1; lane = lane.2; other = λ e. other (left' ∙ e) }))

module _ (S : Shape) (scripts : List (List Line)) (kept : ℕ) (G : List Entry) (x : Entry) (t : ℕ) (caller : x.caller ≡ t + 1) where
  other_caller : (u : ℕ) → u ≢ t → x.caller ≢ u + 1
  other_caller u ne e = ne (omega (arith, caller, e))

  count_step : (u : ℕ) → u < length scripts → made_count (G ++ x ∷ []) u ≡ (if u == t then made_count G t + 1 else slice_index (state_of S scripts kept G) u)
  count_step u within = dite (ℕ_discrete u t)
      (λ own. ap (λ es. length es) (entries_own G x (u + 1) (caller ∙ ap (λ z. z + 1) (sym own))) ∙ length-append (entries_by G (u + 1)) (x ∷ []) ∙ ap (λ z. made_count G z + 1) own
      ∙ ap (λ z. if z then made_count G t + 1 else slice_index (state_of S scripts kept G) u) (sym (eq-eqb u t own)))
      (λ ne. ap (λ es. length es) (entries_other G x (u + 1) (other_caller u ne)) ∙ sym (count_at S scripts kept G u within)
      ∙ ap (λ z. if z then made_count G t + 1 else slice_index (state_of S scripts kept G) u) (sym (eq-false u t ne)))

  own_unchanged : (W : Option ℕ) → changed_in S W (t + 1) (G ++ x ∷ []) ≡ false
  own_unchanged None = refl
  own_unchanged (Some w) = changed_since-snoc S w (t + 1) false [] G x ∙ ap (λ z. if z then false else (changed_since S w (t + 1) false [] G || changes_word S w G x)) (eq-eqb x.caller (t + 1) caller)

  other_changed : (W : Option ℕ) (u : ℕ) → u ≢ t → one_if (changed_in S W (u + 1) (G ++ x ∷ [])) ≡ (if (one_if (changed_in S W (u + 1) G) == 1) || moves_word S W (move_for S G x t) then 1 else 0)
  other_changed None u ne = refl
  other_changed (Some w) u ne =
      ap one_if (changed_since-snoc S w (u + 1) false [] G x
      ∙ ap (λ z. if z then false else (changed_since S w (u + 1) false [] G || changes_word S w G x)) (eq-false x.caller (u + 1) (other_caller u ne))
      ∙ ap (λ z. changed_since S w (u + 1) false [] G || z) (changes_as_moves S w G x t))
      ∙ one_bit (changed_since S w (u + 1) false [] G) (moves_word S (Some w) (move_for S G x t))

  failure_step : (u : ℕ) → u < length scripts → one_if (may_fail S scripts (G ++ x ∷ []) u)
      ≡ (if u == t then 0 else (if (slice_index (state_of S scripts kept G) (length scripts + u) == 1) || moves_word S (weak_word S (line_at scripts u (slice_index (state_of S scripts kept G) u))) (move_for S G x t) then 1 else 0))
  failure_step u within = dite (ℕ_discrete u t)
      (λ own. ap one_if (subst (λ v. changed_in S (weak_word S (line_at scripts v (made_count (G ++ x ∷ []) v))) (v + 1) (G ++ x ∷ []) ≡ false) (sym own) (own_unchanged (weak_word S (line_at scripts t (made_count (G ++ x ∷ []) t)))))
      ∙ ap (λ z. if z then 0 else (if (slice_index (state_of S scripts kept G) (length scripts + u) == 1) || moves_word S (weak_word S (line_at scripts u (slice_index (state_of S scripts kept G) u))) (move_for S G x t) then 1 else 0)) (sym (eq-eqb u t own)))
      (λ ne. ap (λ p. one_if (changed_in S (weak_word S (line_at scripts u p)) (u + 1) (G ++ x ∷ []))) (ap (λ es. length es) (entries_other G x (u + 1) (other_caller u ne)))
      ∙ other_changed (weak_word S (line_at scripts u (made_count G u))) u ne
      ∙ ap (λ z. if (z == 1) || moves_word S (weak_word S (line_at scripts u (made_count G u))) (move_for S G x t) then 1 else 0) (sym (failure_at S scripts kept G u within))
      ∙ ap (λ p. if (slice_index (state_of S scripts kept G) (length scripts + u) == 1) || moves_word S (weak_word S (line_at scripts u p)) (move_for S G x t) then 1 else 0) (sym (count_at S scripts kept G u within))
      ∙ ap (λ z. if z then 0 else (if (slice_index (state_of S scripts kept G) (length scripts + u) == 1) || moves_word S (weak_word S (line_at scripts u (slice_index (state_of S scripts kept G) u))) (move_for S G x t) then 1 else 0)) (sym (eq-false u t ne)))

  value_step : (o : ℕ) → o < length S.objects → value_of (cells_of_shape S) (G ++ x ∷ []) o ≡ (if o == x.object then value_of (cells_of_shape S) (G ++ x ∷ []) x.object else slice_index (state_of S scripts kept G) (length scripts + length scripts + o))
  value_step o within = dite (ℕ_discrete o x.object)
      (λ own. ap (λ z. value_of (cells_of_shape S) (G ++ x ∷ []) z) own
      ∙ ap (λ z. if z then value_of (cells_of_shape S) (G ++ x ∷ []) x.object else slice_index (state_of S scripts kept G) (length scripts + length scripts + o)) (sym (eq-eqb o x.object own)))
      (λ ne. value_of-other (cells_of_shape S) G x o (λ e. ne (sym e)) ∙ sym (value_at S scripts kept G o within)
      ∙ ap (λ z. if z then value_of (cells_of_shape S) (G ++ x ∷ []) x.object else slice_index (state_of S scripts kept G) (length scripts + length scripts + o)) (sym (eq-false o x.object ne)))

  replies_own : (u : ℕ) → u ≡ t → replies_by (G ++ x ∷ []) (u + 1) ≡ replies_by G (u + 1) ++ x.reply ∷ []
  replies_own u own = ap (map (λ (y : Entry). y.reply)) (entries_own G x (u + 1) (caller ∙ ap (λ z. z + 1) (sym own))) ∙ map-snoc (λ (y : Entry). y.reply) (entries_by G (u + 1)) x

  replies_other : (u : ℕ) → u ≢ t → replies_by (G ++ x ∷ []) (u + 1) ≡ replies_by G (u + 1)
  replies_other u ne = ap (map (λ (y : Entry). y.reply)) (entries_other G x (u + 1) (other_caller u ne))

  -- the reply at a place of a thread
  reply_step : (u p : ℕ) (half old : ℕ) → old ≡ reply_number half (slice_get (replies_by G (u + 1)) p)
      → reply_number half (slice_get (replies_by (G ++ x ∷ []) (u + 1)) p) ≡ (if (u == t) && (p == made_count G t) then reply_number half (Some x.reply) else old)
  reply_step u p half old is = dite (ℕ_discrete u t)
      (λ own. dite (ℕ_discrete p (made_count G t))
      (λ here.
      let last : length (replies_by G (u + 1)) ≡ p = length-map' (λ (y : Entry). y.reply) (entries_by G (u + 1)) ∙ ap (λ z. made_count G z) own ∙ sym here in
      ap (λ l. reply_number half (slice_get l p)) (replies_own u own)
      ∙ ap (reply_number half) (subst (λ k. slice_get (replies_by G (u + 1) ++ x.reply ∷ []) k ≡ Some x.reply) last (at_last (replies_by G (u + 1)) x.reply))
      ∙ ap (λ z. if z then reply_number half (Some x.reply) else old) (sym (and_true (u == t) (p == made_count G t) (eq-eqb u t own) (eq-eqb p (made_count G t) here))))
      (λ there.
      let last : length (replies_by G (u + 1)) ≡ made_count G t = length-map' (λ (y : Entry). y.reply) (entries_by G (u + 1)) ∙ ap (λ z. made_count G z) own in
      ap (λ l. reply_number half (slice_get l p)) (replies_own u own)
      ∙ ap (reply_number half) (at_other (replies_by G (u + 1)) x.reply p (λ e. there (e ∙ last)))
      ∙ sym is
      ∙ ap (λ z. if z then reply_number half (Some x.reply) else old) (sym (and_false_right (u == t) (p == made_count G t) (eq-false p (made_count G t) there)))))
      (λ ne. ap (λ l. reply_number half (slice_get l p)) (replies_other u ne)
      ∙ sym is
      ∙ ap (λ z. if z then reply_number half (Some x.reply) else old) (sym (ap (λ z. z && (p == made_count G t)) (eq-false u t ne))))
    where
      and_false_right : (a b : Bool) → b ≡ false → (a && b) ≡ false
      and_false_right true b e = e
      and_false_right false b e = refl

  pub cell_step : (i : ℕ) → i < cell_count S scripts kept → cell_of S scripts (G ++ x ∷ []) i ≡ cell_after S scripts (state_of S scripts kept G) (move_for S G x t) i
  cell_step i within = by_sort-same (length scripts) (length S.objects) (cell_count S scripts kept)
      (λ (u : ℕ). made_count (G ++ x ∷ []) u) (λ (u : ℕ). one_if (may_fail S scripts (G ++ x ∷ []) u)) (λ (o : ℕ). value_of (cells_of_shape S) (G ++ x ∷ []) o)
      (λ (r : ℕ). reply_number (r % 2) (slice_get (replies_by (G ++ x ∷ []) (told_thread (length scripts) r + 1)) (told_place (length scripts) r)))
      (λ (u : ℕ). if u == t then made_count G t + 1 else slice_index (state_of S scripts kept G) u)
      (λ (u : ℕ). if u == t then 0 else (if (slice_index (state_of S scripts kept G) (length scripts + u) == 1) || moves_word S (weak_word S (line_at scripts u (slice_index (state_of S scripts kept G) u))) (move_for S G x t) then 1 else 0))
      (λ (o : ℕ). if o == x.object then value_of (cells_of_shape S) (G ++ x ∷ []) x.object else slice_index (state_of S scripts kept G) (length scripts + length scripts + o))
      (λ (r : ℕ). if (told_thread (length scripts) r == t) && (told_place (length scripts) r == made_count G t) then reply_number (r % 2) (Some x.reply) else slice_index (state_of S scripts kept G) (length scripts + length scripts + length S.objects + r))
      count_step failure_step value_step
      (λ r below. reply_step (told_thread (length scripts) r) (told_place (length scripts) r) (r % 2) (slice_index (state_of S scripts kept G) (length scripts + length scripts + length S.objects + r)) (told_at S scripts kept G r below))
      i within

  pub state_step : state_of S scripts kept (G ++ x ∷ []) ≡ state_after S scripts kept (state_of S scripts kept G) (move_for S G x t)
  state_step = map_same (cell_of S scripts (G ++ x ∷ [])) (cell_after S scripts (state_of S scripts kept G) (move_for S G x t)) (cell_count S scripts kept) 0 (λ i low within. cell_step i (omega arith))
    where
      map_same : (f g : ℕ → ℕ) (count a : ℕ) → ((i : ℕ) → a ≤ i → i < a + count → f i ≡ g i) → map f (range_with_len a count) ≡ map g (range_with_len a count)
      map_same f g zero a h = refl
      map_same f g (suc count) a h =
          let first : f a ≡ g a = h a (omega arith) (omega arith) in
          let rest : map f (range_with_len (a + 1) count) ≡ map g (range_with_len (a + 1) count) = map_same f g count (a + 1) (λ i low within. h i (omega arith) (omega arith)) in
          cc (first, rest)
