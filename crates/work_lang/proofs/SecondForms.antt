-- Second forms: that there is one, that it is a workload, and that it makes the same calls.
use Rattle.std.proofs.Common.{◌≡◌, ℕ, zero, suc, ◌≤◌, List, [], ◌∷◌, ◌++◌, length, map, refl, sym, subst, ap, ◌∙◌, arith, ◌⊎◌, inl, inr, length-append}
use Rattle.std.specs.List.{AllByRecursion, sum_by}
use Rattle.std.proofs.lemmas.List.Sums.{sum_by-cons}
use Rattle.std.proofs.lemmas.List.Concat.{flat_map-cons}
use Rattle.target_desc.specs.declared.target.Target.{Target}
use Rattle.place_core.specs.declared.name.Declared.{Declared}
use Rattle.place_core.specs.declared.script.Line.{Line}
use Rattle.place_core.specs.declared.script.Piece.{Piece}
use Rattle.place_core.specs.declared.script.Piece.TheVariants.{One, Block}
use Rattle.place_core.specs.Pieces.{times_over, piece_lines, script_lines}
use Rattle.place_core.specs.ShapeRuns.{IsRun}
use Rattle.work_lang.specs.Spelling.{Pairs}
use Rattle.work_lang.specs.Workload.{Workload, IsWork, threads_of, LineFits, LineStands, PieceStands, lines_written, calls_made, written_lines}
use Rattle.work_lang.specs.Second.{IsRunOf, AreLongestRuns, IsRewritten}
use Rattle.work_lang.specs.SecondLaws.{SecondFormIsOne, SecondFormIsWork, AreSameRuns, SecondFormRunsAlike}
use Rattle.work_lang.proofs.LongestRuns.{times_of, run_lines, run_some, longest_runs_are_one}

-- ---- there is one

scripts_are_one : (all : List (List Line)) (ps qs : List (List Piece)) → Pairs AreLongestRuns all ps → Pairs AreLongestRuns all qs → ps ≡ qs
scripts_are_one [] [] [] a b = refl
scripts_are_one [] (p ∷ ps) qs a b = absurd a
scripts_are_one [] [] (q ∷ qs) a b = absurd b
scripts_are_one (ls ∷ all) [] qs a b = absurd a
scripts_are_one (ls ∷ all) (p ∷ ps) [] a b = absurd b
scripts_are_one (ls ∷ all) (p ∷ ps) (q ∷ qs) a b =
    ap (λ (x : List Piece). x ∷ ps) (longest_runs_are_one ls p q a.0 b.0) ∙ ap (λ (xs : List (List Piece)). q ∷ xs) (scripts_are_one all ps qs a.1 b.1)

two_is_one : {n : ℕ} → n ≡ 2 → n ≡ 1 → ⊥
two_is_one a b = omega arith

rewritten_are_one : (w v u : Workload) → IsRewritten w v → IsRewritten w u → v ≡ u
rewritten_are_one w v u a b =
    let version : v.version ≡ u.version = a.version ∙ sym b.version in
    let target : v.target ≡ u.target = a.target ∙ sym b.target in
    let objects : v.objects ≡ u.objects = a.objects ∙ sym b.objects in
    let scripts : v.scripts ≡ u.scripts = scripts_are_one (threads_of w) v.scripts u.scripts a.scripts b.scripts in
    λ i. record { version = version i; target = target i; objects = objects i; scripts = scripts i }

pub second_is_one : SecondFormIsOne
second_is_one w v u (inl a) (inl b) = a.1 ∙ sym b.1
second_is_one w v u (inl a) (inr b) = absurd (two_is_one a.0 b.first)
second_is_one w v u (inr a) (inl b) = absurd (two_is_one b.0 a.first)
second_is_one w v u (inr a) (inr b) = rewritten_are_one w v u a b

-- ---- the same calls

pub scripts_make : (all : List (List Line)) (ps : List (List Piece)) → Pairs AreLongestRuns all ps → map script_lines ps ≡ all
scripts_make [] [] a = refl
scripts_make [] (p ∷ ps) a = absurd a
scripts_make (ls ∷ all) [] a = absurd a
scripts_make (ls ∷ all) (p ∷ ps) a = ap (λ (x : List Line). x ∷ map script_lines ps) a.0.made ∙ ap (λ (xs : List (List Line)). ls ∷ xs) (scripts_make all ps a.1)

same_runs : (w v : Workload) → v.target ≡ w.target → v.objects ≡ w.objects → threads_of v ≡ threads_of w → AreSameRuns w v
same_runs w v target objects threads = record {
  target = target;
  objects = objects;
  threads = threads;
  runs = λ S H. (subst (λ (t : List (List Line)). IsRun S t H) threads, subst (λ (t : List (List Line)). IsRun S t H) (sym threads));
}

pub second_runs_alike : SecondFormRunsAlike
second_runs_alike w v (inl a) = same_runs w v (ap (λ (x : Workload). x.target) a.1) (ap (λ (x : Workload). x.objects) a.1) (ap threads_of a.1)
second_runs_alike w v (inr a) = same_runs w v a.target a.objects (scripts_make (threads_of w) v.scripts a.scripts)

-- ---- it is a workload

all_first : (P : Line → Type 0) (xs ys : List Line) → AllByRecursion P (xs ++ ys) → AllByRecursion P xs
all_first P [] ys all = tt
all_first P (x ∷ xs) ys all = (all.0, all_first P xs ys all.1)

all_second : (P : Line → Type 0) (xs ys : List Line) → AllByRecursion P (xs ++ ys) → AllByRecursion P ys
all_second P [] ys all = all
all_second P (x ∷ xs) ys all = all_second P xs ys all.1

-- a line of version 1 may stand in version 2
later_stands : (objects : List Declared) (l : Line) → LineFits objects l → LineStands 2 objects l
later_stands objects l fits = (fits, λ newer. refl)

-- version 1 has no blocks
lines_stand : (objects : List Declared) (ps : List Piece) → AllByRecursion (PieceStands 1 objects) ps → AllByRecursion (LineStands 2 objects) (script_lines ps)
lines_stand objects [] all = tt
lines_stand objects (One l ∷ ps) all = (later_stands objects l all.0.0, lines_stand objects ps all.1)
lines_stand objects (Block times lines ∷ ps) all = absurd (omega (arith, all.0.0))

-- what holds of the lines of a run holds of its line
run_line_has : (P : Line → Type 0) (x : Line) (p : Piece) → IsRunOf x p → AllByRecursion P (piece_lines p) → P x
run_line_has P x p is all = by (times_of p) (run_some x p is) (subst (AllByRecursion P) (run_lines x p is) all)
  where
    by : (n : ℕ) → 1 ≤ n → AllByRecursion P (times_over n (x ∷ [])) → P x
    by zero some all = absurd (omega arith)
    by (suc n) some all = all.0

run_stands : (objects : List Declared) (x : Line) (p : Piece) → IsRunOf x p → LineStands 2 objects x → PieceStands 2 objects p
run_stands objects x (One l) is stands = subst (LineStands 2 objects) (sym is) stands
run_stands objects x (Block times lines) is stands = (refl, omega (arith, is.0), is.1, subst (AllByRecursion (LineStands 2 objects)) (sym is.2) (stands, tt))

pieces_stand : (objects : List Declared) (fs : List Line) (ps : List Piece) → Pairs IsRunOf fs ps → AllByRecursion (LineStands 2 objects) (script_lines ps) → AllByRecursion (PieceStands 2 objects) ps
pieces_stand objects [] [] runs all = tt
pieces_stand objects [] (p ∷ ps) runs all = absurd runs
pieces_stand objects (f ∷ fs) [] runs all = absurd runs
pieces_stand objects (f ∷ fs) (p ∷ ps) runs all =
    let parts = subst (AllByRecursion (LineStands 2 objects)) (flat_map-cons piece_lines p ps) all in
    (run_stands objects f p runs.0 (run_line_has (LineStands 2 objects) f p runs.0 (all_first (LineStands 2 objects) (piece_lines p) (script_lines ps) parts)), pieces_stand objects fs ps runs.1 (all_second (LineStands 2 objects) (piece_lines p) (script_lines ps) parts))

run_length : (x : Line) (p : Piece) → IsRunOf x p → 1 ≤ length (piece_lines p)
run_length x p is = subst (λ (ls : List Line). 1 ≤ length ls) (sym (run_lines x p is)) (by (times_of p) (run_some x p is))
  where
    by : (n : ℕ) → 1 ≤ n → 1 ≤ length (times_over n (x ∷ []))
    by zero some = absurd (omega arith)
    by (suc n) some = omega arith

run_written : (x : Line) (p : Piece) → IsRunOf x p → written_lines p ≡ 1
run_written x (One l) is = refl
run_written x (Block times lines) is = ap length is.2

-- a run is written with one line, and makes one at least
written_below_made : (fs : List Line) (ps : List Piece) → Pairs IsRunOf fs ps → lines_written ps ≤ calls_made ps
written_below_made [] [] runs = omega arith
written_below_made [] (p ∷ ps) runs = absurd runs
written_below_made (f ∷ fs) [] runs = absurd runs
written_below_made (f ∷ fs) (p ∷ ps) runs =
    omega (arith, sum_by-cons written_lines p ps, run_written f p runs.0, run_length f p runs.0, written_below_made fs ps runs.1, ap length (flat_map-cons piece_lines p ps), length-append (piece_lines p) (script_lines ps))

runs_written : (lines : List Line) (ps : List Piece) → AreLongestRuns lines ps → lines_written ps ≤ length lines
runs_written lines ps a = omega (arith, written_below_made a.firsts ps a.runs, ap length a.made)

scripts_stand : (objects : List Declared) (ss ps : List (List Piece)) → Pairs AreLongestRuns (map script_lines ss) ps → AllByRecursion (λ (script : List Piece). AllByRecursion (PieceStands 1 objects) script) ss → AllByRecursion (λ (script : List Piece). AllByRecursion (PieceStands 2 objects) script) ps
scripts_stand objects [] [] a all = tt
scripts_stand objects [] (p ∷ ps) a all = absurd a
scripts_stand objects (s ∷ ss) [] a all = absurd a
scripts_stand objects (s ∷ ss) (p ∷ ps) a all =
    (pieces_stand objects a.0.firsts p a.0.runs (subst (AllByRecursion (LineStands 2 objects)) (sym a.0.made) (lines_stand objects s all.0)), scripts_stand objects ss ps a.1 all.1)

as_many : (ss ps : List (List Piece)) → Pairs AreLongestRuns (map script_lines ss) ps → length ps ≡ length ss
as_many [] [] a = refl
as_many [] (p ∷ ps) a = absurd a
as_many (s ∷ ss) [] a = absurd a
as_many (s ∷ ss) (p ∷ ps) a = omega (arith, as_many ss ps a.1)

scripts_written : (most : ℕ) (ss ps : List (List Piece)) → Pairs AreLongestRuns (map script_lines ss) ps → AllByRecursion (λ (script : List Piece). calls_made script ≤ most) ss → AllByRecursion (λ (script : List Piece). lines_written script ≤ most) ps
scripts_written most [] [] a few = tt
scripts_written most [] (p ∷ ps) a few = absurd a
scripts_written most (s ∷ ss) [] a few = absurd a
scripts_written most (s ∷ ss) (p ∷ ps) a few = (omega (arith, runs_written (script_lines s) p a.0, few.0), scripts_written most ss ps a.1 few.1)

scripts_called : (most more : ℕ) (ss ps : List (List Piece)) → most ≤ more → Pairs AreLongestRuns (map script_lines ss) ps → AllByRecursion (λ (script : List Piece). calls_made script ≤ most) ss → AllByRecursion (λ (script : List Piece). calls_made script ≤ more) ps
scripts_called most more [] [] le a few = tt
scripts_called most more [] (p ∷ ps) le a few = absurd a
scripts_called most more (s ∷ ss) [] le a few = absurd a
scripts_called most more (s ∷ ss) (p ∷ ps) le a few = (omega (arith, ap length a.0.made, few.0), scripts_called most more ss ps le a.1 few.1)

written_in_all : (ss ps : List (List Piece)) → Pairs AreLongestRuns (map script_lines ss) ps → sum_by lines_written ps ≤ sum_by calls_made ss
written_in_all [] [] a = omega arith
written_in_all [] (p ∷ ps) a = absurd a
written_in_all (s ∷ ss) [] a = absurd a
written_in_all (s ∷ ss) (p ∷ ps) a = omega (arith, sum_by-cons lines_written p ps, sum_by-cons calls_made s ss, runs_written (script_lines s) p a.0, written_in_all ss ps a.1)

called_in_all : (ss ps : List (List Piece)) → Pairs AreLongestRuns (map script_lines ss) ps → sum_by calls_made ps ≡ sum_by calls_made ss
called_in_all [] [] a = refl
called_in_all [] (p ∷ ps) a = absurd a
called_in_all (s ∷ ss) [] a = absurd a
called_in_all (s ∷ ss) (p ∷ ps) a = omega (arith, sum_by-cons calls_made p ps, sum_by-cons calls_made s ss, ap length a.0.made, called_in_all ss ps a.1)

abbrev pub of_version : ℕ → Target → List Declared → List (List Piece) → Workload
of_version version target objects scripts = record { version = version; target = target; objects = objects; scripts = scripts }

rewritten_stands : (target : Target) (objects : List Declared) (ss ps : List (List Piece)) → IsWork (of_version 1 target objects ss) → Pairs AreLongestRuns (map script_lines ss) ps → IsWork (of_version 2 target objects ps)
rewritten_stands target objects ss ps ok a = record {
  version = inr refl;
  target = ok.target;
  of_version = λ big. refl;
  names = ok.names;
  objects = ok.objects;
  pieces = scripts_stand objects ss ps a ok.pieces;
  few_objects = omega (arith, ok.few_objects);
  few_threads = omega (arith, as_many ss ps a, ok.few_threads);
  few_lines = scripts_written 65536 ss ps a ok.few_calls;
  few_lines_in_all = omega (arith, written_in_all ss ps a, ok.few_calls_in_all);
  few_calls = scripts_called 65536 1000000 ss ps (omega arith) a ok.few_calls;
  few_calls_in_all = omega (arith, called_in_all ss ps a, ok.few_calls_in_all);
}

pub rewritten_is_work : (w v : Workload) → IsWork w → IsRewritten w v → IsWork v
rewritten_is_work w v ok r =
    let first : w ≡ of_version 1 w.target w.objects w.scripts = λ i. of_version (r.first i) w.target w.objects w.scripts in
    let rewritten : of_version 2 w.target w.objects v.scripts ≡ v = λ i. of_version (sym r.version i) (sym r.target i) (sym r.objects i) v.scripts in
    subst IsWork rewritten (rewritten_stands w.target w.objects w.scripts v.scripts (subst IsWork first ok) r.scripts)

pub second_is_work : SecondFormIsWork
second_is_work w v ok (inl a) = subst IsWork (sym a.1) ok
second_is_work w v ok (inr r) = rewritten_is_work w v ok r

-- the parts of a workload of version 1, with its scripts cut
pub is_rewritten : (w : Workload) (version : ℕ) (target : Target) (objects : List Declared) (scripts made : List (List Piece)) → IsWork w → w ≡ of_version version target objects scripts → (w.version ≡ 2 → ⊥) → Pairs AreLongestRuns (threads_of w) made → IsRewritten w (of_version 2 target objects made)
is_rewritten w version target objects scripts made ok parts other cut = record {
  first = by ok.version;
  version = refl;
  target = sym (ap (λ (x : Workload). x.target) parts);
  objects = sym (ap (λ (x : Workload). x.objects) parts);
  scripts = cut;
}
  where
    by : (w.version ≡ 1) ⊎ (w.version ≡ 2) → w.version ≡ 1
    by (inl e) = e
    by (inr e) = absurd (other e)
