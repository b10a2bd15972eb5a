-- A run without its last loads, and a whole part with them.
use Rattle.std.proofs.Common.{◌≡◌, ◌≢◌, ◌∙◌, ⊎_elim, ◌⊎◌, ℕ, zero, suc, ◌+◌, ◌<◌, ◌≤◌, List, [], ◌∷◌, ◌++◌, length, map, refl, sym, subst, ap, append-nil, arith, length-append}
use Rattle.std.specs.Prelude.{slice_get}
use Rattle.std.specs.List.{AllByRecursion}
use mathlib.Core.List.{IsPrefix}
use Rattle.op_table.specs.declared.call.Call.{Call}
use Rattle.place_core.specs.declared.entry.Entry.{Entry}
use Rattle.place_core.specs.declared.script.Line.{Line}
use Rattle.place_core.specs.declared.shape.Shape.{Shape}
use Rattle.place_core.specs.Histories.{CallersWithin}
use Rattle.place_core.specs.Cells.{value_of, entries_by, IsLawful, IsLegal}
use Rattle.place_core.specs.Earned.{IsEarned, IsSpuriousEntry, AllEarned}
use Rattle.place_core.specs.Runs.{made_of, asked_of, asked_by, loads_from, FollowScripts}
use Rattle.place_core.specs.Shapes.{cells_of_shape}
use Rattle.place_core.specs.ShapeRuns.{IsRun}
use Rattle.place_core.proofs.EntryLists.{all_append, all_map, all_both, Each-append_left, made_by-append, made_by-all, made_by-whole, made_by-absent, made_by-nowhere, made_by-new, CallersWithin-all, CallersWithin-append}
use Rattle.place_core.proofs.Prefixes.{prefix_self, prefix_whole}
use Rattle.run_steps.specs.Parts.{IsOfThread, lines_of}
use Rattle.run_steps.proofs.Lists.{length-map', prefix_nil}
use Rattle.run_ends.specs.Ends.{TellsSame, IsWholePart}
use Rattle.run_ends.specs.Laws.{RunsHaveEnds, EndsAreOfRuns, LastLoadsTellValues}
use Rattle.run_ends.proofs.Loads.{last_replies, loads_leave, with_loads}

caller_of : Entry → ℕ
caller_of x = x.caller

none_in : {X : Type 0} (xs : List X) → length xs ≡ 0 → xs ≡ []
none_in [] e = refl
none_in (x ∷ xs) e = absurd (omega arith)

-- what follows, thread by thread
followed : (H : List Entry) (i : ℕ) (scripts : List (List Line)) → FollowScripts H i scripts → (t : ℕ) → t < length scripts → map made_of (entries_by H (i + t)) ≡ asked_by (lines_of scripts t)
followed H i [] follows t within = absurd (omega arith)
followed H i (script ∷ scripts) follows zero within = ap (λ (c : ℕ). map made_of (entries_by H c)) (omega arith) ∙ follows.0
followed H i (script ∷ scripts) follows (suc t) within = ap (λ (c : ℕ). map made_of (entries_by H c)) (omega arith) ∙ followed H (i + 1) scripts follows.1 t (omega arith)

follows_by : (H : List Entry) (i : ℕ) (scripts : List (List Line)) → ((t : ℕ) → t < length scripts → map made_of (entries_by H (i + t)) ≡ asked_by (lines_of scripts t)) → FollowScripts H i scripts
follows_by H i [] each = tt
follows_by H i (script ∷ scripts) each = (
  ap (λ (c : ℕ). map made_of (entries_by H c)) (omega arith) ∙ each 0 (omega arith),
  follows_by H (i + 1) scripts (λ t within. ap (λ (c : ℕ). map made_of (entries_by H c)) (omega arith) ∙ each (suc t) (omega arith)),
)

no_lines : (scripts : List (List Line)) (t : ℕ) → length scripts ≤ t → lines_of scripts t ≡ []
no_lines [] t le = refl
no_lines (script ∷ scripts) zero le = absurd (omega arith)
no_lines (script ∷ scripts) (suc t) le = no_lines scripts t (omega arith)

-- the last loads are of no thread
module _ (G E : List Entry) (own : AllByRecursion (λ (x : Entry). x.caller ≡ 0) E) where
  pub threads_own : (t : ℕ) → entries_by (G ++ E) (t + 1) ≡ entries_by G (t + 1)
  threads_own t =
      made_by-append (λ (x : Entry). x.caller) G E (t + 1)
      ∙ ap (λ (l : List Entry). entries_by G (t + 1) ++ l)
      (made_by-absent (λ (x : Entry). x.caller) E (t + 1) (all_map (λ (x : Entry). x.caller ≡ 0) (λ (x : Entry). x.caller ≢ t + 1) E (λ x zeroth other. omega arith) own))
      ∙ append-nil (entries_by G (t + 1))

  pub loads_own : entries_by G 0 ≡ [] → entries_by (G ++ E) 0 ≡ E
  loads_own none = made_by-append (λ (x : Entry). x.caller) G E 0 ∙ ap (λ (l : List Entry). l ++ entries_by E 0) none ∙ made_by-whole (λ (x : Entry). x.caller) E 0 own

  pub none_before : entries_by (G ++ E) 0 ≡ E → entries_by G 0 ≡ []
  none_before loads =
      let split : E ≡ entries_by G 0 ++ E = sym loads ∙ made_by-append (λ (x : Entry). x.caller) G E 0 ∙ ap (λ (l : List Entry). entries_by G 0 ++ l) (made_by-whole (λ (x : Entry). x.caller) E 0 own) in
      none_in (entries_by G 0) (omega (arith, ap (λ (l : List Entry). length l) split, length-append (entries_by G 0) E))

-- ---- a run without its last loads

module _ (S : Shape) (scripts : List (List Line)) (H G E : List Entry) (split : H ≡ G ++ E) (own : AllByRecursion (λ (x : Entry). x.caller ≡ 0) E) (loads : E ≡ entries_by H 0) (run : IsRun S scripts H) where
  entries_same : (t : ℕ) → entries_by H (t + 1) ≡ entries_by G (t + 1)
  entries_same t = ap (λ (l : List Entry). entries_by l (t + 1)) split ∙ threads_own G E own t

  made_all : (t : ℕ) → t < length scripts → map made_of (entries_by G (t + 1)) ≡ asked_by (lines_of scripts t)
  made_all t within =
      ap (map made_of) (sym (entries_same t)) ∙ ap (λ (c : ℕ). map made_of (entries_by H c)) (omega arith) ∙ followed H 1 scripts run.run.scripted t within

  callers : CallersWithin (λ (x : Entry). x.caller) (length scripts) G
  callers = ((CallersWithin-append (λ (x : Entry). x.caller) (length scripts) G E).0 (subst (CallersWithin (λ (x : Entry). x.caller) (length scripts)) split run.run.callers)).0

  scripted : (t : ℕ) → IsPrefix (map made_of (entries_by G (t + 1))) (asked_by (lines_of scripts t))
  scripted t = ⊎_elim
      (λ (less : t < length scripts). subst (λ (l : List (ℕ × Call)). IsPrefix l (asked_by (lines_of scripts t))) (sym (made_all t less)) (prefix_self (asked_by (lines_of scripts t))))
      (λ (le : length scripts ≤ t). subst (λ (l : List Entry). IsPrefix (map made_of l) (asked_by (lines_of scripts t))) (sym (made_by-new (λ (x : Entry). x.caller) (length scripts) (t + 1) G callers (omega arith))) (prefix_nil (asked_by (lines_of scripts t))))
      (less_or_le t (length scripts))
    where
      less_or_le : (m n : ℕ) → (m < n) ⊎ (n ≤ m)
      less_or_le m n = search arith

  part_of_run : IsWholePart S scripts G
  part_of_run = record {
    part = record {
      legal = Each-append_left (IsLawful (cells_of_shape S)) G E (subst (λ (l : List Entry). IsLegal (cells_of_shape S) l) split run.run.legal);
      threads = all_both (λ (x : Entry). x.caller ≤ length scripts) (λ (x : Entry). x.caller ≢ 0) (IsOfThread (length scripts)) G (λ x below other. (omega arith, below))
          ((CallersWithin-all (λ (x : Entry). x.caller) (length scripts) G).0 callers)
          (made_by-nowhere (λ (x : Entry). x.caller) G 0 (none_before G E own (ap (λ (l : List Entry). entries_by l 0) (sym split) ∙ sym loads)));
      scripted = scripted;
      earned = Each-append_left (λ F y. IsSpuriousEntry y → IsEarned S F y) G E (subst (AllEarned S) split run.earned);
    };
    end = λ t within. sym (length-map' made_of (entries_by G (t + 1))) ∙ ap (λ (l : List (ℕ × Call)). length l) (made_all t within) ∙ length-map' asked_of (lines_of scripts t);
  }

  tells_same : map made_of E ≡ loads_from 0 (cells_of_shape S) → TellsSame S scripts H G
  tells_same made = record {
    replies = λ t within. ap (map (λ (x : Entry). x.reply)) (entries_same t);
    values = λ o. ap (λ (l : List Entry). value_of (cells_of_shape S) l o) split ∙ loads_leave (cells_of_shape S) G E o 0 (cells_of_shape S) made;
  }

pub runs_have_ends : RunsHaveEnds
runs_have_ends S scripts H run =
    let G : List Entry = run.run.ends.before in
    let E : List Entry = entries_by H 0 in
    let own : AllByRecursion (λ (x : Entry). x.caller ≡ 0) E = made_by-all (λ (x : Entry). x.caller) H 0 in
    (G, part_of_run S scripts H G E run.run.ends.split own refl run, tells_same S scripts H G E run.run.ends.split own refl run run.run.ends.loads)

-- ---- a whole part with last loads

module _ (S : Shape) (scripts : List (List Line)) (G E : List Entry) (own : AllByRecursion (λ (x : Entry). x.caller ≡ 0) E) (whole : IsWholePart S scripts G) where
  all_made : (t : ℕ) → t < length scripts → map made_of (entries_by G (t + 1)) ≡ asked_by (lines_of scripts t)
  all_made t within =
      let size : length (map made_of (entries_by G (t + 1))) ≡ length (asked_by (lines_of scripts t)) = length-map' made_of (entries_by G (t + 1)) ∙ whole.end t within ∙ sym (length-map' asked_of (lines_of scripts t)) in
      prefix_whole (map made_of (entries_by G (t + 1))) (asked_by (lines_of scripts t)) (whole.part.scripted t) (omega arith)

  none_of_root : entries_by G 0 ≡ []
  none_of_root = made_by-absent (λ (x : Entry). x.caller) G 0 (all_map (IsOfThread (length scripts)) (λ (x : Entry). x.caller ≢ 0) G (λ x of zeroth. absurd (omega (arith, of.0))) whole.part.threads)

  run_of_part : IsLegal (cells_of_shape S) (G ++ E) → AllEarned S (G ++ E) → map made_of E ≡ loads_from 0 (cells_of_shape S) → IsRun S scripts (G ++ E)
  run_of_part legal earned made = record {
    run = record {
      legal = legal;
      callers = (CallersWithin-all (λ (x : Entry). x.caller) (length scripts) (G ++ E)).1
          (all_append (λ (x : Entry). x.caller ≤ length scripts) G E
          (all_map (IsOfThread (length scripts)) (λ (x : Entry). x.caller ≤ length scripts) G (λ x of. of.1) whole.part.threads)
          (all_map (λ (x : Entry). x.caller ≡ 0) (λ (x : Entry). x.caller ≤ length scripts) E (λ x zeroth. omega arith) own));
      scripted = follows_by (G ++ E) 1 scripts (λ t within. ap (λ (c : ℕ). map made_of (entries_by (G ++ E) c)) (omega arith) ∙ ap (map made_of) (threads_own G E own t) ∙ all_made t within);
      ends = record {
        before = G;
        split = ap (λ (l : List Entry). G ++ l) (sym (loads_own G E own none_of_root));
        loads = ap (map made_of) (loads_own G E own none_of_root) ∙ made;
      };
    };
    earned = earned;
  }

pub ends_are_of_runs : EndsAreOfRuns
ends_are_of_runs S scripts G whole =
    let more = with_loads S (cells_of_shape S) G 0 (cells_of_shape S) (λ k cell e. ap (slice_get (cells_of_shape S)) (omega arith) ∙ e) whole.part.legal whole.part.earned in (
      G ++ more.entries,
      run_of_part S scripts G more.entries more.own whole more.legal more.earned more.loads,
      record {
        replies = λ t within. ap (map (λ (x : Entry). x.reply)) (threads_own G more.entries more.own t);
        values = λ o. loads_leave (cells_of_shape S) G more.entries o 0 (cells_of_shape S) more.loads;
      },
    )

pub last_loads_tell_values : LastLoadsTellValues
last_loads_tell_values S scripts H run = last_replies (cells_of_shape S) scripts H run.run
