-- With at most one script a run with the table's replies is the plain history.
use Rattle.std.proofs.Common.{◌≡◌, ◌≢◌, ℕ, ◌≤◌, List, [], ◌∷◌, ◌++◌, length, map, refl, sym, subst, ap, ◌∙◌, arith, length-append}
use Rattle.std.specs.List.{AllByRecursion}
use Rattle.std.proofs.lemmas.List.{append-nil}
use Rattle.place_core.specs.declared.entry.Entry.{Entry}
use Rattle.place_core.specs.declared.script.Line.{Line}
use Rattle.place_core.specs.Histories.{Each, CallersWithin}
use Rattle.place_core.specs.Cells.{Cell, entries_by, HasTableReply}
use Rattle.place_core.specs.Runs.{made_of, asked_by, loads_from, IsCellRun}
use Rattle.place_core.proofs.PlainHistory.{values_after, entries_of, starts_of, plain_history}
use Rattle.place_core.proofs.EntryLists.{all_map, all_both, Each-append_left, made_by-append, made_by-all, made_by-whole, made_by-absent, made_by-nowhere, CallersWithin-all, CallersWithin-append}
use Rattle.place_core.proofs.Tracking.{determined, tracks_start}

entries_by-append : (H K : List Entry) (c : ℕ) → entries_by (H ++ K) c ≡ entries_by H c ++ entries_by K c
entries_by-append H K c = made_by-append (λ (x : Entry). x.caller) H K c

none_in : {X : Type 0} (xs : List X) → length xs ≡ 0 → xs ≡ []
none_in [] e = refl
none_in (x ∷ xs) e = absurd (omega arith)

-- with no script all entries are caller 0's
only_loads : (cells : List Cell) (H : List Entry) → IsCellRun cells [] H → Each (HasTableReply cells) H → H ≡ plain_history cells []
only_loads cells H run table =
    let within : AllByRecursion (λ x. x.caller ≤ 0) H = (CallersWithin-all (λ (x : Entry). x.caller) 0 H).0 run.callers in
    let all = all_map (λ x. x.caller ≤ 0) (λ x. x.caller ≡ 0) H (λ x below. omega arith) within in
    let calls : map made_of H ≡ loads_from 0 cells = ap (map made_of) (sym (made_by-whole (λ (x : Entry). x.caller) H 0 all)) ∙ run.ends.loads in
    (determined cells (starts_of cells) [] H 0 (tracks_start cells) table all).same ∙ ap (entries_of cells (starts_of cells) 0) calls

-- in front of the last loads caller 0 has no entry
none_before : (B Z : List Entry) → Z ≡ entries_by (B ++ Z) 0 → AllByRecursion (λ x. x.caller ≡ 0) Z → entries_by B 0 ≡ []
none_before B Z loads own =
    let split : Z ≡ entries_by B 0 ++ Z = loads ∙ entries_by-append B Z 0 ∙ ap (λ l. entries_by B 0 ++ l) (made_by-whole (λ (x : Entry). x.caller) Z 0 own) in
    none_in (entries_by B 0) (omega (arith, ap length split, length-append (entries_by B 0) Z))

-- so with one script all before them is the thread's
pub thread_alone : (B Z : List Entry) → Z ≡ entries_by (B ++ Z) 0 → AllByRecursion (λ x. x.caller ≡ 0) Z → CallersWithin (λ (x : Entry). x.caller) 1 (B ++ Z) → AllByRecursion (λ x. x.caller ≡ 1) B
thread_alone B Z loads own within =
    let low : AllByRecursion (λ x. x.caller ≤ 1) B = (CallersWithin-all (λ (x : Entry). x.caller) 1 B).0 ((CallersWithin-append (λ (x : Entry). x.caller) 1 B Z).0 within).0 in
    all_both (λ x. x.caller ≤ 1) (λ x. x.caller ≢ 0) (λ x. x.caller ≡ 1) B (λ x below other. omega arith) low (made_by-nowhere (λ (x : Entry). x.caller) B 0 (none_before B Z loads own))

only_thread : (B Z : List Entry) → AllByRecursion (λ x. x.caller ≡ 1) B → AllByRecursion (λ x. x.caller ≡ 0) Z → entries_by (B ++ Z) 1 ≡ B
only_thread B Z thread own =
    entries_by-append B Z 1
    ∙ ap (λ l. l ++ entries_by Z 1) (made_by-whole (λ (x : Entry). x.caller) B 1 thread)
    ∙ ap (λ l. B ++ l) (made_by-absent (λ (x : Entry). x.caller) Z 1 (all_map (λ x. x.caller ≡ 0) (λ x. x.caller ≢ 1) Z (λ x zeroth first. omega arith) own))
    ∙ append-nil B

only_one : (cells : List Cell) (script : List Line) (H B Z : List Entry) → Z ≡ entries_by H 0 → H ≡ B ++ Z → IsCellRun cells (script ∷ []) H → Each (HasTableReply cells) H → H ≡ plain_history cells (script ∷ [])
only_one cells script H B Z loads split run table =
    let own : AllByRecursion (λ x. x.caller ≡ 0) Z = subst (AllByRecursion (λ (x : Entry). x.caller ≡ 0)) (sym loads) (made_by-all (λ (x : Entry). x.caller) H 0) in
    let thread = thread_alone B Z (loads ∙ ap (λ l. entries_by l 0) split) own (subst (CallersWithin (λ (x : Entry). x.caller) 1) split run.callers) in
    let asked : map made_of B ≡ asked_by script = ap (map made_of) (sym (only_thread B Z thread own) ∙ ap (λ l. entries_by l 1) (sym split)) ∙ run.scripted.0 in
    let loaded : map made_of Z ≡ loads_from 0 cells = ap (map made_of) loads ∙ run.ends.loads in
    let both : Each (HasTableReply cells) (B ++ Z) = subst (Each (HasTableReply cells)) split table in
    let vs = starts_of cells in
    let first = determined cells vs [] B 1 (tracks_start cells) (Each-append_left (HasTableReply cells) B Z both) thread in
    let later = determined cells (values_after cells vs (map made_of B)) B Z 0 first.tracks both own in
    split
    ∙ ap (λ l. l ++ Z) first.same
    ∙ ap (λ l. entries_of cells vs 1 (map made_of B) ++ l) later.same
    ∙ ap (λ a. entries_of cells vs 1 a ++ entries_of cells (values_after cells vs a) 0 (map made_of Z)) asked
    ∙ ap (λ a. entries_of cells vs 1 (asked_by script) ++ entries_of cells (values_after cells vs (asked_by script)) 0 a) loaded

pub only_run : (cells : List Cell) (scripts : List (List Line)) (H : List Entry) → length scripts ≤ 1 → IsCellRun cells scripts H → Each (HasTableReply cells) H → H ≡ plain_history cells scripts
only_run cells [] H few run table = only_loads cells H run table
only_run cells (script ∷ []) H few run table = only_one cells script H run.ends.before (entries_by H 0) refl run.ends.split run table
only_run cells (script ∷ other ∷ scripts) H few run table = absurd (omega arith)
