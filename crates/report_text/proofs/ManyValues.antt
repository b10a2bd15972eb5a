-- The calls of a generated workload on one object are of one family, so each object has a fixed value.
use Rattle.std.proofs.Common.{◌≡◌, ◌∙◌, Bool, true, false, ℕ, zero, suc, ◌+◌, ◌/◌, ◌%◌, ◌<◌, List, [], ◌∷◌, map, refl, sym, subst, ap, ap₂, arith}
use Rattle.std.specs.Prelude.{◌&&◌, ◌||◌, ◌==◌, Option, Some, None, slice_get, if◌then◌else◌}
use Rattle.std.specs.List.{AllByRecursion}
use mathlib.Core.Logic.{dite}
use native.Mathlib.Decide.{ℕ_discrete}
use Rattle.std.proofs.lemmas.Bool.Decides.{nat_tests}
use Rattle.std.proofs.lemmas.List.{length-map}
use Rattle.rand_core.specs.Steps.{first_words}
use Rattle.rand_pcg.specs.Lcg.{Lcg}
use Rattle.rand_pcg.specs.Pcg.{pcg64}
use Rattle.op_table.specs.declared.call.Call.{Call}
use Rattle.op_table.specs.declared.call.Reply.{Reply}
use Rattle.op_table.specs.declared.call.Reply.TheVariants as reply
use Rattle.place_core.specs.declared.entry.Entry.{Entry}
use Rattle.place_core.specs.declared.script.Line.{Line}
use Rattle.place_core.specs.declared.script.Piece.TheVariants.{One}
use Rattle.place_core.specs.Pieces.{script_lines}
use Rattle.place_core.specs.Cells.{Cell, value_of}
use Rattle.place_core.specs.DeclaredObjects.{cells_of, cell_of}
use Rattle.place_core.specs.Runs.{IsCellRun}
use Rattle.place_core.proofs.EntryLists.{all_append}
use Rattle.ledger_sums.specs.declared.families.Family.{Family}
use Rattle.ledger_sums.specs.declared.families.Family.TheVariants.{Sums, Flips, Sets, Clears, Maxima, Minima}
use Rattle.ledger_sums.specs.Families.{mix_of, suits, all_suit, are_of_one_family}
use Rattle.ledger_sums.specs.Fixed.{calls_on, lines_of, after_calls, fixed_by, fixed_value, fixed_from}
use Rattle.ledger_sums.specs.Laws.{IsSoundCell}
use Rattle.ledger_sums.proofs.Tallying.{length-fixed_from}
use Rattle.ledger_sums.proofs.LastValues.{fixed_is_last}
use Rattle.work_lang.specs.Workload.{threads_of}
use Rattle.work_lang.specs.Generated.{many_of, generated_objects, generator_of, call_on, drawn_line, after_words, script_from, scripts_from}
use Rattle.report_text.specs.Report.{fixed_of}
use Rattle.report_text.specs.Many.{many_lines, many_with, value_reply}
use Rattle.report_text.specs.Laws.{ManyIsFixed, HasValue, EachIsFixed}
use Rattle.report_text.proofs.LastLoads.{values_from, value_replies, last_replies}

-- ---- lines that are drawn

abbrev IsDrawn : Line → Type 0
IsDrawn line = (word : ℕ) × (line ≡ drawn_line word)

words_drawn : (words : List ℕ) → AllByRecursion IsDrawn (script_lines (map (λ word. One (drawn_line word)) words))
words_drawn [] = tt
words_drawn (word ∷ words) = ((word, refl), words_drawn words)

threads_drawn : (threads calls : ℕ) (g : Lcg) → AllByRecursion IsDrawn (lines_of (map script_lines (scripts_from threads calls g)))
threads_drawn zero calls g = tt
threads_drawn (suc threads) calls g = all_append IsDrawn (script_lines (script_from calls g)) (lines_of (map script_lines (scripts_from threads calls (after_words calls g))))
    (words_drawn (first_words pcg64 calls g)) (threads_drawn threads calls (after_words calls g))

-- ---- their families

-- the family of the calls on an object
abbrev family_on : ℕ → Family
family_on zero = Sums
family_on (suc zero) = Sums
family_on (suc (suc zero)) = Maxima
family_on (suc (suc (suc zero))) = Minima
family_on (suc (suc (suc (suc zero)))) = Flips
family_on (suc (suc (suc (suc (suc zero))))) = Sets
family_on (suc (suc (suc (suc (suc (suc zero)))))) = Clears
family_on (suc (suc (suc (suc (suc (suc (suc n))))))) = Sums

suits_on : (number bits : ℕ) → number < 8 → suits (family_on number) (mix_of (call_on number bits)) ≡ true
suits_on zero bits low = refl
suits_on (suc zero) bits low = refl
suits_on (suc (suc zero)) bits low = refl
suits_on (suc (suc (suc zero))) bits low = refl
suits_on (suc (suc (suc (suc zero)))) bits low = refl
suits_on (suc (suc (suc (suc (suc zero))))) bits low = refl
suits_on (suc (suc (suc (suc (suc (suc zero)))))) bits low = refl
suits_on (suc (suc (suc (suc (suc (suc (suc zero))))))) bits low = refl
suits_on (suc (suc (suc (suc (suc (suc (suc (suc n)))))))) bits low = absurd (omega arith)

drawn_suits : (o word : ℕ) → (drawn_line word).object ≡ o → suits (family_on o) (mix_of (drawn_line word).call) ≡ true
drawn_suits o word on = subst (λ (n : ℕ). suits (family_on n) (mix_of (drawn_line word).call) ≡ true) on (suits_on (word % 8) (word / 8) (omega arith))

and_true : (a b : Bool) → a ≡ true → b ≡ true → (a && b) ≡ true
and_true a b x y = rw (x, y) refl

all_suited : (o : ℕ) (lines : List Line) → AllByRecursion IsDrawn lines → all_suit (family_on o) (calls_on o lines) ≡ true
all_suited o [] drawn = refl
all_suited o (line ∷ lines) drawn = dite (ℕ_discrete line.object o)
    (λ (own : line.object ≡ o).
    let tested : (line.object == o) ≡ true = grind (arith, nat_tests, own) in
    ap (λ (b : Bool). all_suit (family_on o) (if b then line.call ∷ calls_on o lines else calls_on o lines)) tested
    ∙ and_true _ _ (subst (λ (l : Line). suits (family_on o) (mix_of l.call) ≡ true) (sym drawn.0.1) (drawn_suits o drawn.0.0 (ap (λ (l : Line). l.object) (sym drawn.0.1) ∙ own))) (all_suited o lines drawn.1))
    (λ other.
    let tested : (line.object == o) ≡ false = grind (arith, nat_tests, other) in
    ap (λ (b : Bool). all_suit (family_on o) (if b then line.call ∷ calls_on o lines else calls_on o lines)) tested
    ∙ all_suited o lines drawn.1)

or_left : (a b : Bool) → a ≡ true → (a || b) ≡ true
or_left a b x = rw x refl

or_right : (a b : Bool) → b ≡ true → (a || b) ≡ true
or_right true b x = refl
or_right false b x = x

one_family : (f : Family) (calls : List Call) → all_suit f calls ≡ true → are_of_one_family calls ≡ true
one_family Sums calls all = or_left _ _ all
one_family Flips calls all = or_right (all_suit Sums calls) _ (or_left _ _ all)
one_family Sets calls all = or_right (all_suit Sums calls) _ (or_right (all_suit Flips calls) _ (or_left _ _ all))
one_family Clears calls all = or_right (all_suit Sums calls) _ (or_right (all_suit Flips calls) _ (or_right (all_suit Sets calls) _ (or_left _ _ all)))
one_family Maxima calls all = or_right (all_suit Sums calls) _ (or_right (all_suit Flips calls) _ (or_right (all_suit Sets calls) _ (or_right (all_suit Clears calls) _ (or_left _ _ all))))
one_family Minima calls all = or_right (all_suit Sums calls) _ (or_right (all_suit Flips calls) _ (or_right (all_suit Sets calls) _ (or_right (all_suit Clears calls) _ (or_right (all_suit Maxima calls) _ all))))

-- ---- fixed values

abbrev some_of : List ℕ → List (Option ℕ)
some_of vs = map (λ (v : ℕ). Some v) vs

module _ (cells : List Cell) (scripts : List (List Line)) (H : List Entry) (sound : AllByRecursion IsSoundCell cells) (run : IsCellRun cells scripts H)
    (families : (o : ℕ) → are_of_one_family (calls_on o (lines_of scripts)) ≡ true) where
  fixed_is : (o : ℕ) (cell : Cell) → slice_get cells o ≡ Some cell → fixed_by (Some cell) (calls_on o (lines_of scripts)) ≡ Some (value_of cells H o)
  fixed_is o cell at =
      let calls = calls_on o (lines_of scripts) in
      let told : fixed_by (Some cell) calls ≡ Some (after_calls cell.kind cell.start calls) = ap (λ (b : Bool). if b then Some (after_calls cell.kind cell.start calls) else None) (families o) in
      let of_cells : fixed_value cells scripts o ≡ Some (after_calls cell.kind cell.start calls) = ap (λ (c : Option Cell). fixed_by c calls) at ∙ told in
      told ∙ ap Some (sym (fixed_is_last cells scripts H o (after_calls cell.kind cell.start calls) sound run of_cells))

  fixed_all : (o : ℕ) (rest : List Cell) → ((i : ℕ) (cell : Cell) → slice_get rest i ≡ Some cell → slice_get cells (o + i) ≡ Some cell)
      → fixed_from (lines_of scripts) o rest ≡ some_of (values_from cells H o rest)
  fixed_all o [] within = refl
  fixed_all o (cell ∷ rest) within = ap₂ (λ (f : Option ℕ) (fs : List (Option ℕ)). f ∷ fs)
      (fixed_is o cell (subst (λ (j : ℕ). slice_get cells j ≡ Some cell) (omega arith) (within 0 cell refl)))
      (fixed_all (o + 1) rest (λ i c at. subst (λ (j : ℕ). slice_get cells j ≡ Some c) (omega arith) (within (suc i) c at)))

replied : (vs : List ℕ) → value_replies vs ≡ map value_reply (some_of vs)
replied [] = refl
replied (v ∷ vs) = ap (λ (rs : List Reply). reply.Value v ∷ rs) (replied vs)

-- ---- generated workloads

abbrev cells : List Cell
cells = cells_of generated_objects

cells_sound : AllByRecursion IsSoundCell cells
cells_sound = (((λ e. absurd cc), omega arith), (((λ e. absurd cc), omega arith), (((λ e. absurd cc), omega arith), (((λ e. absurd cc), omega arith), (((λ e. absurd cc), omega arith), (((λ e. absurd cc), omega arith), (((λ e. absurd cc), omega arith), (((λ e. absurd cc), omega arith), tt))))))))

generated_fixed : (seed threads calls : ℕ) (H : List Entry) → IsCellRun cells (threads_of (many_of seed threads calls)) H
    → fixed_of (many_of seed threads calls) ≡ some_of (values_from cells H 0 cells)
unfolding many_of
generated_fixed seed threads calls H run =
    let scripts = map script_lines (scripts_from threads calls (generator_of seed)) in
    fixed_all cells scripts H cells_sound run
    (λ o. one_family (family_on o) (calls_on o (lines_of scripts)) (all_suited o (lines_of scripts) (threads_drawn threads calls (generator_of seed))))
    0 cells (λ i c at. subst (λ (j : ℕ). slice_get cells j ≡ Some c) (omega arith) at)

pub many_is_fixed : ManyIsFixed
unfolding many_lines
many_is_fixed seed threads calls H fits run =
    ap (many_with seed threads calls generated_objects)
    (last_replies cells (threads_of (many_of seed threads calls)) H run
    ∙ replied (values_from cells H 0 cells)
    ∙ ap (map value_reply) (sym (generated_fixed seed threads calls H run)))

-- ---- each object

each_from : (scripts : List (List Line)) → ((o : ℕ) → are_of_one_family (calls_on o (lines_of scripts)) ≡ true) → (o : ℕ) (rest : List Cell) → AllByRecursion HasValue (fixed_from (lines_of scripts) o rest)
each_from scripts families o [] = tt
each_from scripts families o (cell ∷ rest) =
    let calls = calls_on o (lines_of scripts) in
    let told : fixed_by (Some cell) calls ≡ Some (after_calls cell.kind cell.start calls) = ap (λ (b : Bool). if b then Some (after_calls cell.kind cell.start calls) else None) (families o) in
    ((after_calls cell.kind cell.start calls, told), each_from scripts families (o + 1) rest)

pub each_is_fixed : EachIsFixed
unfolding many_of
each_is_fixed seed threads calls =
    let scripts = map script_lines (scripts_from threads calls (generator_of seed)) in (
      length-fixed_from (lines_of scripts) 0 cells ∙ length-map generated_objects cell_of,
      each_from scripts (λ o. one_family (family_on o) (calls_on o (lines_of scripts)) (all_suited o (lines_of scripts) (threads_drawn threads calls (generator_of seed)))) 0 cells,
    )
