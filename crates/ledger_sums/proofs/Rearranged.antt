-- Calls of one family on an object leave the same value in whichever order callers make them.
use Rattle.std.proofs.Common.{◌≡◌, ◌≢◌, ℕ, zero, suc, ◌+◌, ◌<◌, ◌≤◌, Bool, true, false, List, [], ◌∷◌, ◌++◌, length, map, refl, ap, sym, ◌∙◌, subst, arith, eq-eqb, ne_eqb}
use Rattle.std.specs.Prelude.{if◌then◌else◌, ◌==◌}
use Rattle.std.specs.List.{AllByRecursion}
use Rattle.std.proofs.lemmas.List.{map-append}
use mathlib.Core.Logic.{dite}
use native.Mathlib.Decide.{ℕ_discrete}
use Rattle.op_table.specs.declared.kind.Kind.{Kind}
use Rattle.op_table.specs.declared.call.Call.{Call}
use Rattle.op_table.specs.Kind.{values_of, IsKind}
use Rattle.op_table.specs.Call.{after_of}
use Rattle.op_table.proofs.Rows.{after_fits}
use Rattle.place_core.specs.declared.entry.Entry.{Entry}
use Rattle.place_core.specs.declared.script.Line.{Line}
use Rattle.place_core.specs.Cells.{Cell, entries_by}
use Rattle.place_core.specs.Runs.{made_of, asked_of, FollowScripts, loads_from}
use Rattle.place_core.proofs.EntryLists.{made_by-none, made_by-own_first, made_by-other_first}
use Rattle.ledger_sums.specs.declared.families.Family.{Family}
use Rattle.ledger_sums.specs.Fixed.{calls_on, lines_of, after_calls}
use Rattle.ledger_sums.proofs.Members.{IsMember, either_order}

-- ---- calls one after another on object o of kind k

abbrev pub step : Kind → ℕ → ℕ × Call → ℕ → ℕ
step k o a v = if a.0 == o then after_of k a.1 v else v

abbrev pub steps : Kind → ℕ → ℕ → List (ℕ × Call) → ℕ
steps k o v [] = v
steps k o v (a ∷ more) = steps k o (step k o a v) more

step-own : (k : Kind) (o : ℕ) (a : ℕ × Call) (v : ℕ) → a.0 ≡ o → step k o a v ≡ after_of k a.1 v
step-own k o a v own = ap (λ (b : Bool). if b then after_of k a.1 v else v) (eq-eqb a.0 o own)

step-other : (k : Kind) (o : ℕ) (a : ℕ × Call) (v : ℕ) → a.0 ≢ o → step k o a v ≡ v
step-other k o a v other = ap (λ (b : Bool). if b then after_of k a.1 v else v) (ne_eqb a.0 o other)

steps-append : (k : Kind) (o v : ℕ) (xs ys : List (ℕ × Call)) → steps k o v (xs ++ ys) ≡ steps k o (steps k o v xs) ys
steps-append k o v [] ys = refl
steps-append k o v (a ∷ xs) ys = steps-append k o (step k o a v) xs ys

-- the calls of lines are those on the object
pub steps-lines : (k : Kind) (o v : ℕ) (lines : List Line) → steps k o v (map asked_of lines) ≡ after_calls k v (calls_on o lines)
steps-lines k o v [] = refl
steps-lines k o v (line ∷ lines) = dite (ℕ_discrete line.object o)
    (λ own.
    ap (λ w. steps k o w (map asked_of lines)) (step-own k o (asked_of line) v own)
    ∙ steps-lines k o (after_of k line.call v) lines
    ∙ ap (λ (b : Bool). after_calls k v (if b then line.call ∷ calls_on o lines else calls_on o lines)) (sym (eq-eqb line.object o own)))
    (λ other.
    ap (λ w. steps k o w (map asked_of lines)) (step-other k o (asked_of line) v other)
    ∙ steps-lines k o v lines
    ∙ ap (λ (b : Bool). after_calls k v (if b then line.call ∷ calls_on o lines else calls_on o lines)) (sym (ne_eqb line.object o other)))

-- loads leave the value
pub steps-loads : (k : Kind) (o v j : ℕ) (cells : List Cell) → steps k o v (loads_from j cells) ≡ v
steps-loads k o v j [] = refl
steps-loads k o v j (cell ∷ cells) = ap (λ w. steps k o w (loads_from (j + 1) cells)) (same (j == o)) ∙ steps-loads k o v (j + 1) cells
  where
    same : (b : Bool) → (if b then v else v) ≡ v
    same true = refl
    same false = refl

-- ---- entries of callers

-- the calls of n callers, the first of them with number i, caller after caller
abbrev pub by_callers : Kind → ℕ → ℕ → List Entry → ℕ → ℕ → ℕ
by_callers k o v H i zero = v
by_callers k o v H i (suc n) = by_callers k o (steps k o v (map made_of (entries_by H i))) H (i + 1) n

by_callers-none : (k : Kind) (o v i n : ℕ) → by_callers k o v [] i n ≡ v
by_callers-none k o v i zero = refl
by_callers-none k o v i (suc n) =
    ap (λ (l : List Entry). by_callers k o (steps k o v (map made_of l)) [] (i + 1) n) (made_by-none (λ (x : Entry). x.caller) i)
    ∙ by_callers-none k o v (i + 1) n

-- an entry of a caller before these
by_callers-before : (k : Kind) (o v : ℕ) (x : Entry) (H : List Entry) (i n : ℕ) → x.caller < i → by_callers k o v (x ∷ H) i n ≡ by_callers k o v H i n
by_callers-before k o v x H i zero below = refl
by_callers-before k o v x H i (suc n) below =
    ap (λ (l : List Entry). by_callers k o (steps k o v (map made_of l)) (x ∷ H) (i + 1) n) (made_by-other_first (λ (y : Entry). y.caller) x H i (λ same. omega arith))
    ∙ by_callers-before k o (steps k o v (map made_of (entries_by H i))) x H (i + 1) n (omega arith)

-- the calls of scripts are those of their callers
pub by_callers-scripts : (k : Kind) (o v : ℕ) (H : List Entry) (i : ℕ) (scripts : List (List Line)) → FollowScripts H i scripts → by_callers k o v H i (length scripts) ≡ steps k o v (map asked_of (lines_of scripts))
by_callers-scripts k o v H i [] follow = refl
by_callers-scripts k o v H i (script ∷ scripts) follow =
    ap (λ (l : List (ℕ × Call)). by_callers k o (steps k o v l) H (i + 1) (length scripts)) follow.0
    ∙ by_callers-scripts k o (steps k o v (map asked_of script)) H (i + 1) scripts follow.1
    ∙ sym (steps-append k o v (map asked_of script) (map asked_of (lines_of scripts)))
    ∙ ap (steps k o v) (sym (map-append asked_of script (lines_of scripts)))

-- ---- what holds of entries holds of a caller's

pub all_by : (P : Entry → Type 0) (H : List Entry) (c : ℕ) → AllByRecursion P H → AllByRecursion P (entries_by H c)
all_by P [] c all = subst (AllByRecursion P) (sym (made_by-none (λ (x : Entry). x.caller) c)) tt
all_by P (x ∷ H) c all = dite (ℕ_discrete x.caller c)
    (λ own. subst (AllByRecursion P) (sym (made_by-own_first (λ (y : Entry). y.caller) x H c own)) (all.0, all_by P H c all.1))
    (λ other. subst (AllByRecursion P) (sym (made_by-other_first (λ (y : Entry). y.caller) x H c other)) (all_by P H c all.1))

pub all_made : (Q : ℕ × Call → Type 0) (H : List Entry) → AllByRecursion (λ x. Q (made_of x)) H → AllByRecursion Q (map made_of H)
all_made Q [] all = tt
all_made Q (x ∷ H) all = (all.0, all_made Q H all.1)

-- ---- members in any order

module _ (k : Kind) (valid : IsKind k) (f : Family) (o : ℕ) where
  -- a call on the object is a load or a member of the family
  abbrev pub Joins : ℕ × Call → Type 0
  Joins a = a.0 ≡ o → IsMember k f a.1

  step_fits : (a : ℕ × Call) (v : ℕ) → Joins a → v < values_of k → step k o a v < values_of k
  step_fits a v joins small = dite (ℕ_discrete a.0 o)
      (λ own. subst (λ w. w < values_of k) (sym (step-own k o a v own)) (after_fits k a.1 v valid (joins own).fits small))
      (λ other. subst (λ w. w < values_of k) (sym (step-other k o a v other)) small)

  steps_fit : (xs : List (ℕ × Call)) (v : ℕ) → AllByRecursion Joins xs → v < values_of k → steps k o v xs < values_of k
  steps_fit [] v all small = small
  steps_fit (a ∷ xs) v all small = steps_fit xs (step k o a v) all.1 (step_fits a v all.0 small)

  step_either : (a b : ℕ × Call) (v : ℕ) → Joins a → Joins b → v < values_of k → step k o b (step k o a v) ≡ step k o a (step k o b v)
  step_either a b v first second small = dite (ℕ_discrete a.0 o)
      (λ own. dite (ℕ_discrete b.0 o)
      (λ too.
      ap (step k o b) (step-own k o a v own) ∙ step-own k o b (after_of k a.1 v) too
      ∙ either_order k f a.1 b.1 v valid (first own) (second too) small
      ∙ sym (ap (step k o a) (step-own k o b v too) ∙ step-own k o a (after_of k b.1 v) own))
      (λ other. step-other k o b (step k o a v) other ∙ ap (step k o a) (sym (step-other k o b v other))))
      (λ other. ap (step k o b) (step-other k o a v other) ∙ sym (step-other k o a (step k o b v) other))

  -- a first call may as well be the last
  steps_moved : (a : ℕ × Call) (xs : List (ℕ × Call)) (v : ℕ) → Joins a → AllByRecursion Joins xs → v < values_of k → steps k o (step k o a v) xs ≡ step k o a (steps k o v xs)
  steps_moved a [] v joins all small = refl
  steps_moved a (b ∷ xs) v joins all small =
      ap (λ w. steps k o w xs) (step_either a b v joins all.0 small)
      ∙ steps_moved a xs (step k o b v) joins all.1 (step_fits b v all.0 small)

  -- one entry more, of one of these callers
  by_callers-first : (v : ℕ) (x : Entry) (H : List Entry) (i n : ℕ) → i ≤ x.caller → x.caller < i + n → Joins (made_of x) → AllByRecursion (λ y. Joins (made_of y)) H → v < values_of k
      → by_callers k o (step k o (made_of x) v) H i n ≡ by_callers k o v (x ∷ H) i n
  by_callers-first v x H i zero least below joins all small = absurd (omega arith)
  by_callers-first v x H i (suc n) least below joins all small =
      let own_calls = map made_of (entries_by H i) in
      let all_join = all_made Joins (entries_by H i) (all_by (λ y. Joins (made_of y)) H i all) in
      dite (ℕ_discrete x.caller i)
      (λ own.
      sym (by_callers-before k o (steps k o (step k o (made_of x) v) own_calls) x H (i + 1) n (omega arith))
      ∙ ap (λ (l : List Entry). by_callers k o (steps k o v (map made_of l)) (x ∷ H) (i + 1) n) (sym (made_by-own_first (λ (y : Entry). y.caller) x H i own)))
      (λ other.
      ap (λ w. by_callers k o w H (i + 1) n) (steps_moved (made_of x) own_calls v joins all_join small)
      ∙ by_callers-first (steps k o v own_calls) x H (i + 1) n (omega (arith, other)) (omega arith) joins all (steps_fit own_calls v all_join small)
      ∙ ap (λ (l : List Entry). by_callers k o (steps k o v (map made_of l)) (x ∷ H) (i + 1) n) (sym (made_by-other_first (λ (y : Entry). y.caller) x H i other)))

  -- the entries as they stand leave what they leave caller after caller
  pub steps-by_callers : (v : ℕ) (H : List Entry) (i n : ℕ) → AllByRecursion (λ x. (i ≤ x.caller) × (x.caller < i + n)) H → AllByRecursion (λ x. Joins (made_of x)) H → v < values_of k
      → steps k o v (map made_of H) ≡ by_callers k o v H i n
  steps-by_callers v [] i n within all small = sym (by_callers-none k o v i n)
  steps-by_callers v (x ∷ H) i n within all small =
      steps-by_callers (step k o (made_of x) v) H i n within.1 all.1 (step_fits (made_of x) v all.0 small)
      ∙ by_callers-first v x H i n within.0.0 within.0.1 all.0 all.1 small
