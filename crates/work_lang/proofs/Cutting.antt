-- A script is cut into its longest runs line by line.
use Rattle.std.proofs.Common.{◌≡◌, ◌≢◌, ℕ, zero, suc, ◌+◌, ◌≤◌, ◌<◌, ◌^◌, List, [], ◌∷◌, ◌++◌, length, map, refl, sym, subst, ap, ◌∙◌, arith, length-append, append_assoc, add-one}
use Rattle.std.proofs.lemmas.List.{append-nil}
use Rattle.std.proofs.lemmas.List.Concat.{flat_map-cons}
use Rattle.std.proofs.lemmas.Grind.{flat_map-append}
use Rattle.place_core.specs.declared.script.Line.{Line}
use Rattle.place_core.specs.declared.script.Piece.{Piece}
use Rattle.place_core.specs.declared.script.Piece.TheVariants.{One, Block}
use Rattle.place_core.specs.Pieces.{times_over, piece_lines, script_lines}
use Rattle.place_core.proofs.ScriptLists.{length-times_over}
use Rattle.work_lang.specs.Spelling.{Pairs}
use Rattle.work_lang.specs.Second.{IsRunOf, DifferFromNext, AreLongestRuns}
use Rattle.work_lang.specs.Cutting.{AddsRun, AreRunsSoFar, AreCutSoFar}
use Rattle.work_lang.proofs.LongestRuns.{times_of, run_lines, run_some}

-- ---- the pieces of a run

pub adds_one : (line : Line) (old new : List Piece) → new ≡ old ++ One line ∷ [] → AddsRun line 1 old new
adds_one line old new is = record { piece = One line; of_line = refl; made = refl; added = is }

pub adds_block : (line : Line) (times : ℕ) (lines : List Line) (old new : List Piece) → 2 ≤ times → times < 2 ^ 32 → lines ≡ line ∷ [] → new ≡ old ++ Block times lines ∷ [] → AddsRun line times old new
adds_block line times lines old new some few lines-is is = record { piece = Block times lines; of_line = (some, few, lines-is); made = ap (times_over times) lines-is; added = is }

-- ---- the steps

pub begin : (all left : List Line) (line : Line) → all ≡ line ∷ left → AreRunsSoFar all left line 1 []
begin all left line is = record { firsts = []; runs = tt; longest = tt; some = omega arith; split = sym is }

-- a line more of the same run
one_more : (n : ℕ) (x : Line) (xs : List Line) → times_over (suc n) (x ∷ []) ++ xs ≡ times_over n (x ∷ []) ++ (x ∷ xs)
one_more zero x xs = refl
one_more (suc n) x xs = ap (λ (ls : List Line). x ∷ ls) (one_more n x xs)

pub goes_on : (all left next : List Line) (line found : Line) (times : ℕ) (pieces : List Piece) → left ≡ found ∷ next → found ≡ line → AreRunsSoFar all left line times pieces → AreRunsSoFar all next line (times + 1) pieces
goes_on all left next line found times pieces is same so_far =
    let left-is : left ≡ line ∷ next = is ∙ ap (λ (x : Line). x ∷ next) same in
    record {
      firsts = so_far.firsts;
      runs = so_far.runs;
      longest = so_far.longest;
      some = omega arith;
      split = ap (λ (ls : List Line). script_lines pieces ++ ls) (ap (λ (n : ℕ). times_over n (line ∷ []) ++ next) (add-one times) ∙ one_more times line next ∙ ap (λ (ls : List Line). times_over times (line ∷ []) ++ ls) (sym left-is)) ∙ so_far.split;
    }

runs_push : (fs : List Line) (ps : List Piece) (x : Line) (p : Piece) → Pairs IsRunOf fs ps → IsRunOf x p → Pairs IsRunOf (fs ++ x ∷ []) (ps ++ p ∷ [])
runs_push [] [] x p runs is = (is, tt)
runs_push [] (q ∷ ps) x p runs is = absurd runs
runs_push (f ∷ fs) [] x p runs is = absurd runs
runs_push (f ∷ fs) (q ∷ ps) x p runs is = (runs.0, runs_push fs ps x p runs.1 is)

differ_push : (fs : List Line) (x y : Line) → DifferFromNext (fs ++ x ∷ []) → x ≢ y → DifferFromNext ((fs ++ x ∷ []) ++ y ∷ [])
differ_push [] x y differ other = (other, tt)
differ_push (f ∷ []) x y differ other = (differ.0, (other, tt))
differ_push (f ∷ g ∷ fs) x y differ other = (differ.0, differ_push (g ∷ fs) x y differ.1 other)

-- the lines with a run more
with_run : (line : Line) (times : ℕ) (old new : List Piece) → AddsRun line times old new → script_lines new ≡ script_lines old ++ times_over times (line ∷ [])
with_run line times old new adds =
    ap script_lines adds.added
    ∙ flat_map-append piece_lines old (adds.piece ∷ [])
    ∙ ap (λ (ls : List Line). script_lines old ++ ls) (append-nil (piece_lines adds.piece) ∙ adds.made)

pub turns : (all left next : List Line) (line found : Line) (times : ℕ) (pieces new : List Piece) → left ≡ found ∷ next → line ≢ found → AddsRun line times pieces new → AreRunsSoFar all left line times pieces → AreRunsSoFar all next found 1 new
turns all left next line found times pieces new is other adds so_far = record {
  firsts = so_far.firsts ++ line ∷ [];
  runs = subst (Pairs IsRunOf (so_far.firsts ++ line ∷ [])) (sym adds.added) (runs_push so_far.firsts pieces line adds.piece so_far.runs adds.of_line);
  longest = differ_push so_far.firsts line found so_far.longest other;
  some = omega arith;
  split =
      ap (λ (ls : List Line). script_lines new ++ ls) (sym is)
      ∙ ap (λ (ls : List Line). ls ++ left) (with_run line times pieces new adds)
      ∙ append_assoc (script_lines pieces) (times_over times (line ∷ [])) left
      ∙ so_far.split;
}

pub ends : (all left : List Line) (line : Line) (times : ℕ) (pieces new : List Piece) → left ≡ [] → AddsRun line times pieces new → AreRunsSoFar all left line times pieces → AreLongestRuns all new
ends all left line times pieces new none adds so_far = record {
  firsts = so_far.firsts ++ line ∷ [];
  runs = subst (Pairs IsRunOf (so_far.firsts ++ line ∷ [])) (sym adds.added) (runs_push so_far.firsts pieces line adds.piece so_far.runs adds.of_line);
  longest = so_far.longest;
  made =
      with_run line times pieces new adds
      ∙ ap (λ (ls : List Line). script_lines pieces ++ ls) (sym (append-nil (times_over times (line ∷ []))) ∙ ap (λ (ls : List Line). times_over times (line ∷ []) ++ ls) (sym none))
      ∙ so_far.split;
}

pub no_runs : (all : List Line) → all ≡ [] → AreLongestRuns all []
no_runs all none = record { firsts = []; runs = tt; longest = tt; made = sym none }

-- ---- room

run_length : (x : Line) (p : Piece) → IsRunOf x p → 1 ≤ length (piece_lines p)
run_length x p is = omega (arith, ap length (run_lines x p is), length-times_over (times_of p) (x ∷ []), run_some x p is)

few_pieces : (fs : List Line) (ps : List Piece) → Pairs IsRunOf fs ps → length ps ≤ length (script_lines ps)
few_pieces [] [] runs = omega arith
few_pieces [] (p ∷ ps) runs = absurd runs
few_pieces (f ∷ fs) [] runs = absurd runs
few_pieces (f ∷ fs) (p ∷ ps) runs = omega (arith, run_length f p runs.0, few_pieces fs ps runs.1, ap length (flat_map-cons piece_lines p ps), length-append (piece_lines p) (script_lines ps))

-- the lines of the pieces, the run and those that are left are all
pub record HasRoom (all left : List Line) (times : ℕ) (made : List Piece) : Type 0 where
  pub lines : length (script_lines made) + times + length left ≡ length all
  pub pieces : length made ≤ length (script_lines made)

pub room : (all left : List Line) (line : Line) (times : ℕ) (pieces : List Piece) → AreRunsSoFar all left line times pieces → HasRoom all left times pieces
room all left line times pieces so_far = record {
  lines = omega (arith, ap length so_far.split, length-append (script_lines pieces) (times_over times (line ∷ []) ++ left), length-append (times_over times (line ∷ [])) left, length-times_over times (line ∷ []));
  pieces = few_pieces so_far.firsts pieces so_far.runs;
}

-- ---- all scripts

pairs_push : (all : List (List Line)) (made : List (List Piece)) (lines : List Line) (pieces : List Piece) → Pairs AreLongestRuns all made → AreLongestRuns lines pieces → Pairs AreLongestRuns (all ++ lines ∷ []) (made ++ pieces ∷ [])
pairs_push [] [] lines pieces pairs is = (is, tt)
pairs_push [] (q ∷ qs) lines pieces pairs is = absurd pairs
pairs_push (l ∷ ls) [] lines pieces pairs is = absurd pairs
pairs_push (l ∷ ls) (q ∷ qs) lines pieces pairs is = (pairs.0, pairs_push ls qs lines pieces pairs.1 is)

pub none_cut : (all : List (List Piece)) → AreCutSoFar all all []
none_cut all = record { done = []; cut = tt; split = refl }

pub one_cut_more : (all rest next made new : List (List Piece)) (script pieces : List Piece) → rest ≡ script ∷ next → new ≡ made ++ pieces ∷ [] → AreLongestRuns (script_lines script) pieces → AreCutSoFar all rest made → AreCutSoFar all next new
one_cut_more all rest next made new script pieces rest-is new-is is so_far = record {
  done = so_far.done ++ script_lines script ∷ [];
  cut = subst (Pairs AreLongestRuns (so_far.done ++ script_lines script ∷ [])) (sym new-is) (pairs_push so_far.done made (script_lines script) pieces so_far.cut is);
  split = append_assoc so_far.done (script_lines script ∷ []) (map script_lines next) ∙ ap (λ (ls : List (List Piece)). so_far.done ++ map script_lines ls) (sym rest-is) ∙ so_far.split;
}

pub all_cut : (all rest made : List (List Piece)) → rest ≡ [] → AreCutSoFar all rest made → Pairs AreLongestRuns (map script_lines all) made
all_cut all rest made none so_far =
    let done-is : so_far.done ≡ map script_lines all = sym (append-nil so_far.done) ∙ ap (λ (ls : List (List Piece)). so_far.done ++ map script_lines ls) (sym none) ∙ so_far.split in
    subst (λ (ls : List (List Line)). Pairs AreLongestRuns ls made) done-is so_far.cut
