-- What a machine's steps need: the numbers of a state, and what its lines ask for.
use Rattle.std.proofs.Common.{arith, ◌≡◌, ℕ, ◌+◌, ◌*◌, ◌<◌, List, length, [], Option, Some, None, refl, ap, sym, ◌∙◌, subst, zero, suc, ◌%◌, ◌==◌, Bool, true, false, if◌then◌else◌, ◌≤◌}
use Rattle.std.specs.Prelude.{map, slice_get, slice_index, IfSome}
use Rattle.std.specs.List.{range_with_len}
use Rattle.std.proofs.lemmas.List.FromFn.{length-map-range_with_len}
use Rattle.op_table.specs.Call.{CallFits}
use Rattle.op_table.specs.Kind.{values_of}
use Rattle.place_core.specs.declared.script.Line.{Line}
use Rattle.place_core.specs.declared.script.Piece.{Piece}
use Rattle.place_core.specs.Pieces.{script_lines}
use Rattle.place_core.specs.declared.shape.Shape.{Shape}
use Rattle.place_core.specs.Runs.{ScriptsFit, replies_by}
use Rattle.place_core.specs.declared.entry.Entry.{Entry}
use Rattle.place_core.specs.Cells.{value_of, entries_by}
use Rattle.place_core.specs.Shapes.{kind_of, start_of, cells_of_shape, IsShape}
use Rattle.place_core.specs.WordSums.{one_if}
use Rattle.place_core.proofs.EntryLists.{made_by-none}
use Rattle.place_core.proofs.LegalValues.{value_fits, value_start}
use Rattle.run_steps.specs.Standing.{weak_word, changed_since, changed_in, made_count, line_at, may_fail, reply_number, told_thread, told_place, cell_of, cell_count, state_of, first_cell}
use Rattle.run_steps.specs.Steps.{step_of}
use Rattle.run_steps.specs.Machines.{IsAt}
use Rattle.run_steps.proofs.Lists.{length-map'}
use Rattle.run_steps.proofs.NextEntries.{IsPart-none, line_fits}
use Rattle.run_steps.proofs.Cells.{by_sort-same}
use Rattle.run_steps.proofs.CellSteps.{value_at}
use Rattle.run_steps.proofs.Choices.{kind_there, object_within}
use Rattle.run_steps.proofs.Reaching.{one_step}

module _ (S : Shape) (scripts : List (List Line)) (kept : ℕ) where
  pub length_of : (s : List ℕ) → IsAt S scripts kept s → length s ≡ cell_count S scripts kept
  length_of s at = ap (λ (l : List ℕ). length l) at.part.same ∙ length-map-range_with_len (cell_of S scripts at.part.history) 0 (cell_count S scripts kept)

  pub value_small : (s : List ℕ) → IsAt S scripts kept s → (o : ℕ) → o < length S.objects → slice_index s (length scripts + length scripts + o) < values_of (kind_of S o)
  value_small s at o within =
      subst (λ v. v < values_of (kind_of S o)) (sym (ap (λ l. slice_index l (length scripts + length scripts + o)) at.part.same ∙ value_at S scripts kept at.part.history o within))
      (value_fits S at.valid at.part.history at.part.part.legal o)

  pub line_within : ScriptsFit (cells_of_shape S) scripts → (t p : ℕ) (line : Line) → line_at scripts t p ≡ Some line → line.object < length S.objects
  line_within fits t p line next = let cell = line_fits S scripts [] fits t p line next in object_within S line.object cell.0 cell.1

  pub call_fits_there : ScriptsFit (cells_of_shape S) scripts → (t p : ℕ) (line : Line) → line_at scripts t p ≡ Some line → CallFits (kind_of S line.object) line.call
  call_fits_there fits t p line next = let cell = line_fits S scripts [] fits t p line next in subst (λ k. CallFits k line.call) (sym (kind_there S.objects line.object cell.0 cell.1)) cell.2

  pub still_at : (s : List ℕ) (k : ℕ) → IsAt S scripts kept s → k < 2 * length scripts → IfSome (step_of S scripts kept s k) (IsAt S scripts kept)
  still_at s k at below = go (step_of S scripts kept s k) refl
    where
      go : (o : Option (List ℕ)) → step_of S scripts kept s k ≡ o → IfSome o (IsAt S scripts kept)
      go None is = tt
      go (Some t) is = record { valid = at.valid; fits = at.fits; part = one_step S scripts kept at.fits s t k at.part below is }

-- as many choices as threads have
pub mapped_below : (scripts : List (List Piece)) (k : ℕ) → k < 2 * length scripts → k < 2 * length (map script_lines scripts)
mapped_below scripts k below = let same = length-map' script_lines scripts in omega (arith, same)

-- the value of a line's object, where threads are counted by their scripts
pub value_small_mapped : (S : Shape) (scripts : List (List Piece)) (kept : ℕ) (s : List ℕ) → IsAt S (map script_lines scripts) kept s → (o : ℕ) → o < length S.objects → slice_index s (length scripts + length scripts + o) < values_of (kind_of S o)
value_small_mapped S scripts kept s at o within =
    subst (λ n. slice_index s (n + n + o) < values_of (kind_of S o)) (length-map' script_lines scripts) (value_small S (map script_lines scripts) kept s at o within)

-- ---- the state before the first entry

none_changed : (S : Shape) (W : Option ℕ) (c : ℕ) → changed_in S W c [] ≡ false
unfolding changed_since
none_changed S None c = refl
none_changed S (Some w) c = refl

no_entries : (c : ℕ) → entries_by [] c ≡ []
no_entries c = made_by-none (λ (x : Entry). x.caller) c

no_number : (half : ℕ) → reply_number half None ≡ 0
no_number half = go (half == 0)
  where
    go : (b : Bool) → (let n : ℕ = if b then 0 else 0 in n ≡ 0)
    go true = refl
    go false = refl

map_same : (f g : ℕ → ℕ) (count a : ℕ) → ((i : ℕ) → a ≤ i → i < a + count → f i ≡ g i) → map f (range_with_len a count) ≡ map g (range_with_len a count)
map_same f g zero a h = refl
map_same f g (suc count) a h =
    let first : f a ≡ g a = h a (omega arith) (omega arith) in
    let rest : map f (range_with_len (a + 1) count) ≡ map g (range_with_len (a + 1) count) = map_same f g count (a + 1) (λ i low within. h i (omega arith) (omega arith)) in
    cc (first, rest)

module _ (S : Shape) (scripts : List (List Line)) (kept : ℕ) where
  first_same : (i : ℕ) → i < cell_count S scripts kept → first_cell S (length scripts) i ≡ cell_of S scripts [] i
  first_same i within = by_sort-same (length scripts) (length S.objects) (cell_count S scripts kept)
      (λ (t : ℕ). 0) (λ (t : ℕ). 0) (λ (o : ℕ). start_of S o) (λ (r : ℕ). 0)
      (λ (t : ℕ). made_count [] t) (λ (t : ℕ). one_if (may_fail S scripts [] t)) (λ (o : ℕ). value_of (cells_of_shape S) [] o)
      (λ (r : ℕ). reply_number (r % 2) (slice_get (replies_by [] (told_thread (length scripts) r + 1)) (told_place (length scripts) r)))
      (λ t below. sym (ap (λ (es : List Entry). length es) (no_entries (t + 1))))
      (λ t below. sym (ap one_if (none_changed S (weak_word S (line_at scripts t (made_count [] t))) (t + 1))))
      (λ o below. sym (value_start S o))
      (λ r below. sym (ap (λ (es : List Entry). reply_number (r % 2) (slice_get (map (λ (x : Entry). x.reply) es) (told_place (length scripts) r))) (no_entries (told_thread (length scripts) r + 1)) ∙ no_number (r % 2)))
      i within

  pub state_of-none : map (first_cell S (length scripts)) (range_with_len 0 (cell_count S scripts kept)) ≡ state_of S scripts kept []
  state_of-none = map_same (first_cell S (length scripts)) (cell_of S scripts []) (cell_count S scripts kept) 0 (λ i low within. first_same i (omega arith))

  pub IsAt-none : IsShape S → ScriptsFit (cells_of_shape S) scripts → IsAt S scripts kept (state_of S scripts kept [])
  IsAt-none valid fits = record { valid = valid; fits = fits; part = record { history = []; part = IsPart-none S scripts; same = refl } }
