-- Longest runs of equal lines: how a script is cut into them, and that there is one way.
use Rattle.std.proofs.Common.{◌≡◌, ◌≢◌, ℕ, zero, suc, ◌≤◌, List, [], ◌∷◌, ◌++◌, refl, sym, subst, ap, ◌∙◌, arith}
use Rattle.std.proofs.lemmas.List.Concat.{flat_map-cons}
use Rattle.place_core.specs.declared.script.Line.{Line}
use Rattle.place_core.specs.declared.script.Piece.{Piece}
use Rattle.place_core.specs.declared.script.Piece.TheVariants.{One, Block}
use Rattle.place_core.specs.Pieces.{times_over, piece_lines, script_lines}
use Rattle.work_lang.specs.Spelling.{Pairs}
use Rattle.work_lang.specs.Second.{IsRunOf, DifferFromNext, AreLongestRuns}

-- ---- a run

-- how often a run makes its line
abbrev pub times_of : Piece → ℕ
times_of (One line) = 1
times_of (Block times lines) = times

pub run_lines : (x : Line) (p : Piece) → IsRunOf x p → piece_lines p ≡ times_over (times_of p) (x ∷ [])
run_lines x (One l) is = ap (λ (l : Line). l ∷ []) is
run_lines x (Block times lines) is = ap (times_over times) is.2

pub run_some : (x : Line) (p : Piece) → IsRunOf x p → 1 ≤ times_of p
run_some x (One l) is = omega arith
run_some x (Block times lines) is = omega arith

run_is_one : (x : Line) (p q : Piece) → IsRunOf x p → IsRunOf x q → times_of p ≡ times_of q → p ≡ q
run_is_one x (One l) (One k) a b e = ap One (a ∙ sym b)
run_is_one x (One l) (Block times lines) a b e = absurd (omega arith)
run_is_one x (Block times lines) (One l) a b e = absurd (omega arith)
run_is_one x (Block m ls) (Block n ks) a b e = ap (λ (k : ℕ). Block k ls) e ∙ ap (Block n) (a.2 ∙ sym b.2)

more_lines : (x : Line) (p : Piece) (ps : List Piece) → IsRunOf x p → script_lines (p ∷ ps) ≡ times_over (times_of p) (x ∷ []) ++ script_lines ps
more_lines x p ps is = flat_map-cons piece_lines p ps ∙ ap (λ (ls : List Line). ls ++ script_lines ps) (run_lines x p is)

-- ---- one way

-- no line like this one stands first
abbrev BeginsOtherwise : Line → List Line → Type 0
BeginsOtherwise x [] = Unit {0}
BeginsOtherwise x (y ∷ ys) = x ≢ y

begins : (x y : Line) (n : ℕ) (ls : List Line) → 1 ≤ n → x ≢ y → BeginsOtherwise x (times_over n (y ∷ []) ++ ls)
begins x y zero ls some other = absurd (omega arith)
begins x y (suc n) ls some other = other

run_begins : (x : Line) (fs : List Line) (ps : List Piece) → Pairs IsRunOf fs ps → DifferFromNext (x ∷ fs) → BeginsOtherwise x (script_lines ps)
run_begins x [] [] runs differ = tt
run_begins x [] (p ∷ ps) runs differ = absurd runs
run_begins x (f ∷ fs) [] runs differ = absurd runs
run_begins x (f ∷ fs) (p ∷ ps) runs differ =
    subst (BeginsOtherwise x) (sym (more_lines f p ps runs.0)) (begins x f (times_of p) (script_lines ps) (run_some f p runs.0) differ.0)

differ_more : (x : Line) (xs : List Line) → DifferFromNext (x ∷ xs) → DifferFromNext xs
differ_more x [] differ = tt
differ_more x (y ∷ ys) differ = differ.1

-- equal lines before others: as many on both sides
runs_apart : (m n : ℕ) (x : Line) (xs ys : List Line) → BeginsOtherwise x xs → BeginsOtherwise x ys → times_over m (x ∷ []) ++ xs ≡ times_over n (x ∷ []) ++ ys → (m ≡ n) × (xs ≡ ys)
runs_apart zero zero x xs ys p q e = (refl, e)
runs_apart zero (suc n) x [] ys p q e = absurd cc
runs_apart zero (suc n) x (z ∷ zs) ys p q e = absurd (p cc)
runs_apart (suc m) zero x xs [] p q e = absurd cc
runs_apart (suc m) zero x xs (z ∷ zs) p q e = absurd (q cc)
runs_apart (suc m) (suc n) x xs ys p q e =
    let rest : times_over m (x ∷ []) ++ xs ≡ times_over n (x ∷ []) ++ ys = cc in
    let r = runs_apart m n x xs ys p q rest in
    (omega arith, r.1)

same_first : (m n : ℕ) (x y : Line) (xs ys : List Line) → 1 ≤ m → 1 ≤ n → times_over m (x ∷ []) ++ xs ≡ times_over n (y ∷ []) ++ ys → x ≡ y
same_first zero n x y xs ys a b e = absurd (omega arith)
same_first (suc m) zero x y xs ys a b e = absurd (omega arith)
same_first (suc m) (suc n) x y xs ys a b e = cc

none_made : (n : ℕ) (x : Line) (xs : List Line) → 1 ≤ n → [] ≡ times_over n (x ∷ []) ++ xs → ⊥
none_made zero x xs some e = omega arith
none_made (suc n) x xs some e = cc

one_cut : (fs gs : List Line) (ps qs : List Piece) → Pairs IsRunOf fs ps → Pairs IsRunOf gs qs → DifferFromNext fs → DifferFromNext gs → script_lines ps ≡ script_lines qs → ps ≡ qs
one_cut [] [] [] [] a b c d e = refl
one_cut [] gs (p ∷ ps) qs a b c d e = absurd a
one_cut (f ∷ fs) gs [] qs a b c d e = absurd a
one_cut fs [] ps (q ∷ qs) a b c d e = absurd b
one_cut fs (g ∷ gs) ps [] a b c d e = absurd b
one_cut [] (g ∷ gs) [] (q ∷ qs) a b c d e = absurd (none_made (times_of q) g (script_lines qs) (run_some g q b.0) (e ∙ more_lines g q qs b.0))
one_cut (f ∷ fs) [] (p ∷ ps) [] a b c d e = absurd (none_made (times_of p) f (script_lines ps) (run_some f p a.0) (sym e ∙ more_lines f p ps a.0))
one_cut (f ∷ fs) (g ∷ gs) (p ∷ ps) (q ∷ qs) a b c d e =
    let lines = sym (more_lines f p ps a.0) ∙ e ∙ more_lines g q qs b.0 in
    let first : f ≡ g = same_first (times_of p) (times_of q) f g (script_lines ps) (script_lines qs) (run_some f p a.0) (run_some g q b.0) lines in
    let b0 : IsRunOf f q = subst (λ (x : Line). IsRunOf x q) (sym first) b.0 in
    let d0 : DifferFromNext (f ∷ gs) = subst (λ (x : Line). DifferFromNext (x ∷ gs)) (sym first) d in
    let parts = runs_apart (times_of p) (times_of q) f (script_lines ps) (script_lines qs) (run_begins f fs ps a.1 c) (run_begins f gs qs b.1 d0) (sym (more_lines f p ps a.0) ∙ e ∙ more_lines f q qs b0) in
    ap (λ (x : Piece). x ∷ ps) (run_is_one f p q a.0 b0 parts.0) ∙ ap (λ (xs : List Piece). q ∷ xs) (one_cut fs gs ps qs a.1 b.1 (differ_more f fs c) (differ_more g gs d) parts.1)

pub longest_runs_are_one : (lines : List Line) (ps qs : List Piece) → AreLongestRuns lines ps → AreLongestRuns lines qs → ps ≡ qs
longest_runs_are_one lines ps qs a b = one_cut a.firsts b.firsts ps qs a.runs b.runs a.longest b.longest (a.made ∙ sym b.made)
