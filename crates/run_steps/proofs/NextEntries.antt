-- One more entry of a beginning of a run: whose it is, which line it makes, and what it replies.
use Rattle.std.proofs.Common.{◌≡◌, ◌≢◌, ℕ, ◌+◌, ◌-◌, ◌<◌, List, [], ◌∷◌, ◌++◌, length, Option, Some, None, refl, ap, sym, ◌∙◌, subst, arith}
use Rattle.std.specs.Prelude.{slice_get, map, unwrap_or}
use mathlib.Core.List.{IsPrefix}
use mathlib.Core.Logic.{dite}
use native.Mathlib.Decide.{ℕ_discrete}
use Rattle.op_table.specs.declared.call.Call.{Call}
use Rattle.op_table.specs.Call.{CallFits}
use Rattle.place_core.specs.declared.entry.Entry.{Entry}
use Rattle.place_core.specs.declared.script.Line.{Line}
use Rattle.place_core.specs.declared.shape.Shape.{Shape}
use Rattle.place_core.specs.Cells.{Cell, IsLawful, entries_by}
use Rattle.place_core.specs.Runs.{made_of, asked_of, asked_by, HasCall, ScriptFits, ScriptsFit}
use Rattle.place_core.specs.Shapes.{cells_of_shape}
use Rattle.place_core.specs.Earned.{IsEarned, IsSpuriousEntry}
use Rattle.place_core.proofs.EntryLists.{all_front, all_rest, all_append, Each-more, Each-none, made_by-own, made_by-other, made_by-none}
use Rattle.run_steps.specs.Parts.{IsPart, IsOfThread, lines_of}
use Rattle.run_steps.specs.Standing.{made_count, line_at}
use Rattle.run_steps.proofs.Lists.{some_and, all_at, prefix_at, prefix_one_more, prefix_front, prefix_nil, map-snoc, length-map', at_map, map_at}

-- the entry is of thread t, and makes its next line
pub record MakesLine (scripts : List (List Line)) (G : List Entry) (x : Entry) (t : ℕ) (line : Line) : Type 0 where
  pub caller : x.caller ≡ t + 1
  pub next : line_at scripts t (made_count G t) ≡ Some line
  pub object : x.object ≡ line.object
  pub call : x.call ≡ line.call

pub entries_own : (G : List Entry) (x : Entry) (c : ℕ) → x.caller ≡ c → entries_by (G ++ x ∷ []) c ≡ entries_by G c ++ x ∷ []
entries_own G x c own = made_by-own (λ (y : Entry). y.caller) G x c own

pub entries_other : (G : List Entry) (x : Entry) (c : ℕ) → x.caller ≢ c → entries_by (G ++ x ∷ []) c ≡ entries_by G c
entries_other G x c other = made_by-other (λ (y : Entry). y.caller) G x c other

-- a thread with a line is one of the scripts
pub thread_within : (scripts : List (List Line)) (t p : ℕ) (line : Line) → line_at scripts t p ≡ Some line → (script : List Line) × (slice_get scripts t ≡ Some script) × (slice_get script p ≡ Some line)
thread_within scripts t p line e = go (slice_get scripts t) refl e
  where
    go : (o : Option (List Line)) → slice_get scripts t ≡ o → slice_get (unwrap_or o []) p ≡ Some line → (script : List Line) × (slice_get scripts t ≡ Some script) × (slice_get script p ≡ Some line)
    go None e h = absurd cc
    go (Some script) e h = (script, e, h)

module _ (S : Shape) (scripts : List (List Line)) (G : List Entry) where
  -- ---- what a beginning with one more entry says

  pub IsPart-front : (x : Entry) → IsPart S scripts (G ++ x ∷ []) → IsPart S scripts G
  IsPart-front x part = record {
    legal = ((Each-more (IsLawful (cells_of_shape S)) G x).0 part.legal).0;
    threads = all_front (IsOfThread (length scripts)) G (x ∷ []) part.threads;
    scripted = λ t. dite (ℕ_discrete x.caller (t + 1))
        (λ own. prefix_front (map made_of (entries_by G (t + 1))) (made_of x ∷ []) (asked_by (lines_of scripts t))
        (subst (λ l. IsPrefix l (asked_by (lines_of scripts t))) (ap (map made_of) (entries_own G x (t + 1) own) ∙ map-snoc made_of (entries_by G (t + 1)) x) (part.scripted t)))
        (λ other. subst (λ l. IsPrefix (map made_of l) (asked_by (lines_of scripts t))) (entries_other G x (t + 1) other) (part.scripted t));
    earned = ((Each-more (λ H y. IsSpuriousEntry y → IsEarned S H y) G x).0 part.earned).0;
  }

  pub last_lawful : (x : Entry) → IsPart S scripts (G ++ x ∷ []) → IsLawful (cells_of_shape S) G x
  last_lawful x part = ((Each-more (IsLawful (cells_of_shape S)) G x).0 part.legal).1

  pub last_earned : (x : Entry) → IsPart S scripts (G ++ x ∷ []) → IsSpuriousEntry x → IsEarned S G x
  last_earned x part = ((Each-more (λ H y. IsSpuriousEntry y → IsEarned S H y) G x).0 part.earned).1

  pub last_line : (x : Entry) → IsPart S scripts (G ++ x ∷ []) → (t : ℕ) × (t < length scripts) × ((line : Line) × MakesLine scripts G x t line)
  last_line x part =
      let mine : IsOfThread (length scripts) x = (all_rest (IsOfThread (length scripts)) G (x ∷ []) part.threads).0 in
      let t : ℕ = x.caller - 1 in
      let caller : x.caller ≡ t + 1 = omega (arith, mine.0) in
      let es : List Entry = entries_by G (t + 1) in
      let front : IsPrefix (map made_of es ++ made_of x ∷ []) (asked_by (lines_of scripts t)) =
      subst (λ l. IsPrefix l (asked_by (lines_of scripts t))) (ap (map made_of) (entries_own G x (t + 1) caller) ∙ map-snoc made_of es x) (part.scripted t) in
      let at : slice_get (asked_by (lines_of scripts t)) (length es) ≡ Some (made_of x) =
      subst (λ k. slice_get (asked_by (lines_of scripts t)) k ≡ Some (made_of x)) (length-map' made_of es) (prefix_at (map made_of es) (asked_by (lines_of scripts t)) (made_of x) front) in
      let found = at_map asked_of (lines_of scripts t) (length es) (made_of x) at in
      (t, omega (arith, mine.0, mine.1), (found.0, record { caller = caller; next = found.1; object = ap (λ (z : ℕ × Call). z.0) (sym found.2); call = ap (λ (z : ℕ × Call). z.1) (sym found.2) }))

  -- ---- and what makes one

  pub IsPart-more : IsPart S scripts G → (x : Entry) (t : ℕ) (line : Line) → t < length scripts → MakesLine scripts G x t line → IsLawful (cells_of_shape S) G x → (IsSpuriousEntry x → IsEarned S G x) → IsPart S scripts (G ++ x ∷ [])
  IsPart-more part x t line within makes lawful earned = record {
    legal = (Each-more (IsLawful (cells_of_shape S)) G x).1 (part.legal, lawful);
    threads = all_append (IsOfThread (length scripts)) G (x ∷ []) part.threads ((omega (arith, makes.caller), omega (arith, makes.caller)), tt);
    scripted = λ u. dite (ℕ_discrete x.caller (u + 1))
        (λ own. let same : t ≡ u = omega (arith, makes.caller, own) in
        subst (λ l. IsPrefix l (asked_by (lines_of scripts u))) (sym (ap (map made_of) (entries_own G x (u + 1) own) ∙ map-snoc made_of (entries_by G (u + 1)) x))
        (prefix_one_more (map made_of (entries_by G (u + 1))) (asked_by (lines_of scripts u)) (made_of x) (part.scripted u)
        (subst (λ k. slice_get (asked_by (lines_of scripts u)) k ≡ Some (made_of x)) (sym (length-map' made_of (entries_by G (u + 1))))
        (map_at asked_of (lines_of scripts u) (length (entries_by G (u + 1))) line (subst (λ w. line_at scripts w (made_count G w) ≡ Some line) same makes.next)
        ∙ ap Some (pair_of line.object x.object line.call x.call makes.object makes.call)))))
        (λ other. subst (λ l. IsPrefix (map made_of l) (asked_by (lines_of scripts u))) (sym (entries_other G x (u + 1) other)) (part.scripted u));
    earned = (Each-more (λ H y. IsSpuriousEntry y → IsEarned S H y) G x).1 (part.earned, earned);
  }
    where
      pair_of : (o p : ℕ) (c d : Call) → p ≡ o → d ≡ c → (let first : ℕ × Call = (o, c) in let second : ℕ × Call = (p, d) in first ≡ second)
      pair_of o p c d e f = λ i. (sym e i, sym f i)

  -- what a line asks for is there
  pub line_fits : ScriptsFit (cells_of_shape S) scripts → (t p : ℕ) (line : Line) → line_at scripts t p ≡ Some line → (cell : Cell) × (slice_get (cells_of_shape S) line.object ≡ Some cell) × CallFits cell.kind line.call
  line_fits fits t p line next =
      let there = thread_within scripts t p line next in
      some_and (λ (cell : Cell). CallFits cell.kind line.call) (slice_get (cells_of_shape S) line.object)
      (all_at (λ (l : Line). HasCall (cells_of_shape S) (asked_of l)) there.0 p line (all_at (ScriptFits (cells_of_shape S)) scripts t there.0 fits there.1) there.2)

pub IsPart-none : (S : Shape) (scripts : List (List Line)) → IsPart S scripts []
IsPart-none S scripts = record {
  legal = Each-none (IsLawful (cells_of_shape S));
  threads = tt;
  scripted = λ t. subst (λ l. IsPrefix (map made_of l) (asked_by (lines_of scripts t))) (sym (made_by-none (λ (y : Entry). y.caller) (t + 1))) (prefix_nil (asked_by (lines_of scripts t)));
  earned = Each-none (λ H y. IsSpuriousEntry y → IsEarned S H y);
}
