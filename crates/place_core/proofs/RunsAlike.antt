-- With at most one script no failure is earned, so a run over a shape has the table's replies.
use Rattle.std.proofs.Common.{◌≡◌, ◌≢◌, ℕ, ◌+◌, ◌≤◌, List, [], ◌∷◌, ◌++◌, length, map, refl, sym, subst, ap, ◌∙◌, inl, inr, arith}
use Rattle.std.specs.Prelude.{Some, None, slice_get, IsSomeAnd}
use Rattle.std.specs.declared.option.Option.{Option}
use Rattle.std.specs.List.{AllByRecursion}
use mathlib.Core.Logic.{dite}
use native.Mathlib.Decide.{ℕ_discrete}
use Rattle.op_table.specs.declared.call.Call.{Call}
use Rattle.op_table.specs.declared.call.Call.TheVariants.{Load, CasWeak}
use Rattle.op_table.specs.declared.call.Reply.{Reply}
use Rattle.op_table.specs.declared.call.Reply.TheVariants as reply
use Rattle.op_table.specs.Call.{answer_of, CallFits, Permits, IsSpurious}
use Rattle.place_core.specs.declared.entry.Entry.{Entry}
use Rattle.place_core.specs.declared.script.Line.{Line}
use Rattle.place_core.specs.declared.shape.Shape.{Shape}
use Rattle.place_core.specs.Histories.{Each, CallersWithin}
use Rattle.place_core.specs.Cells.{Cell, left_by, value_of, entries_by, HasTableReply}
use Rattle.place_core.specs.Shapes.{cells_of_shape}
use Rattle.place_core.specs.Runs.{made_of, loads_from, IsCellRun}
use Rattle.place_core.specs.ShapeRuns.{IsRun, OneThreadRunsAlike}
use Rattle.place_core.specs.Earned.{IsEarned, IsSpuriousEntry}
use Rattle.place_core.proofs.EntryLists.{all_rest, made_by-own_first, made_by-other_first, made_by-whole, made_by-all, CallersWithin-all, CallersWithin-weaken}
use Rattle.place_core.proofs.Earning.{nothing_earns_none}
use Rattle.place_core.proofs.PlainHistory.{plain_history}
use Rattle.place_core.proofs.OnlyRun.{thread_alone, only_run}

-- ---- replies of the table

-- only a weak exchange may fail spuriously
weak_failure : (call : Call) (v w : ℕ) (r : Reply) → IsSpurious call v r w → (e : ℕ) × (n : ℕ) × (call ≡ CasWeak e n) × (r ≡ reply.Failed e)
weak_failure (CasWeak e n) v w r is = (e, n, refl, is.1 ∙ ap reply.Failed is.0)
weak_failure _ v w r is = absurd is

told : (cell : Option Cell) (x : Entry) (v : ℕ) → IsSomeAnd cell (λ c. CallFits c.kind x.call × Permits c.kind x.call v x.reply (left_by c.kind x v)) → (IsSpuriousEntry x → ⊥) → IsSomeAnd cell (λ c. x.reply ≡ answer_of c.kind x.call v)
told None x v lawful never = lawful
told (Some c) x v lawful never = elim lawful.1 [ inl reply ↦ reply.0 | inr failed ↦ absurd (never (weak_failure x.call v (left_by c.kind x v) x.reply failed)) ]

-- ---- the last loads

loads_are_loads : (o : ℕ) (cells : List Cell) → AllByRecursion (λ asked. asked.1 ≡ Load) (loads_from o cells)
loads_are_loads o [] = tt
loads_are_loads o (cell ∷ cells) = (refl, loads_are_loads (o + 1) cells)

made_loads : (xs : List Entry) → AllByRecursion (λ asked. asked.1 ≡ Load) (map made_of xs) → AllByRecursion (λ x. x.call ≡ Load) xs
made_loads [] all = tt
made_loads (x ∷ xs) all = (all.0, made_loads xs all.1)

-- what holds of a caller's entries, over all
from_made : (P : Entry → Type 0) (H : List Entry) (c : ℕ) → AllByRecursion P (entries_by H c) → AllByRecursion (λ x. x.caller ≡ c → P x) H
from_made P [] c all = tt
from_made P (x ∷ H) c all = dite (ℕ_discrete x.caller c)
    (λ own. let both = subst (AllByRecursion P) (made_by-own_first (λ (y : Entry). y.caller) x H c own) all in (λ same. both.0, from_made P H c both.1))
    (λ other. (λ same. absurd (other same), from_made P H c (subst (AllByRecursion P) (made_by-other_first (λ (y : Entry). y.caller) x H c other) all)))

-- caller 0 only loads
zeroth_loads : (cells : List Cell) (scripts : List (List Line)) (H : List Entry) → IsCellRun cells scripts H → AllByRecursion (λ x. x.caller ≡ 0 → x.call ≡ Load) H
zeroth_loads cells scripts H run =
    from_made (λ x. x.call ≡ Load) H 0 (made_loads (entries_by H 0) (subst (AllByRecursion (λ asked. asked.1 ≡ Load)) (sym run.ends.loads) (loads_are_loads 0 cells)))

-- ---- before an entry of the one thread

-- B are the thread's, and Z, after them, caller 0's
thread_before : (B Z before : List Entry) (x : Entry) (rest : List Entry) → B ++ Z ≡ before ++ x ∷ rest → AllByRecursion (λ y. y.caller ≡ 1) B → AllByRecursion (λ y. y.caller ≡ 0) Z → x.caller ≡ 1 → AllByRecursion (λ y. y.caller ≡ 1) before
thread_before B Z [] x rest split thread loads own = tt
thread_before [] Z (y ∷ before) x rest split thread loads own =
    let zeroth : x.caller ≡ 0 = (all_rest (λ z. z.caller ≡ 0) (y ∷ before) (x ∷ rest) (subst (AllByRecursion (λ z. z.caller ≡ 0)) split loads)).0 in
    absurd (omega arith)
thread_before (b ∷ B) Z (y ∷ before) x rest split thread loads own =
    let same : b ≡ y = cc in
    let more : B ++ Z ≡ before ++ x ∷ rest = cc in
    (subst (λ z. z.caller ≡ 1) same thread.0, thread_before B Z before x rest more thread.1 loads own)

alone_before : (cells : List Cell) (scripts : List (List Line)) (H before : List Entry) (x : Entry) (rest : List Entry) → length scripts ≤ 1 → IsCellRun cells scripts H → H ≡ before ++ x ∷ rest → x.caller ≢ 0 → entries_by before x.caller ≡ before
alone_before cells scripts H before x rest few run split other =
    let within : CallersWithin (λ (y : Entry). y.caller) 1 H = CallersWithin-weaken (λ (y : Entry). y.caller) (length scripts) 1 H few run.callers in
    let low : AllByRecursion (λ y. y.caller ≤ 1) (before ++ x ∷ rest) = subst (AllByRecursion (λ y. y.caller ≤ 1)) split ((CallersWithin-all (λ (y : Entry). y.caller) 1 H).0 within) in
    let here : x.caller ≤ 1 = (all_rest (λ y. y.caller ≤ 1) before (x ∷ rest) low).0 in
    let first : x.caller ≡ 1 = omega arith in
    let B = run.ends.before in
    let Z = entries_by H 0 in
    let loads : AllByRecursion (λ y. y.caller ≡ 0) Z = made_by-all (λ (y : Entry). y.caller) H 0 in
    let thread = thread_alone B Z (ap (λ l. entries_by l 0) run.ends.split) loads (subst (CallersWithin (λ (y : Entry). y.caller) 1) run.ends.split within) in
    subst (λ c. entries_by before c ≡ before) (sym first)
    (made_by-whole (λ (y : Entry). y.caller) before 1 (thread_before B Z before x rest (sym run.ends.split ∙ split) thread loads first))

-- ---- so none fails spuriously

not_weak : (call : Call) (e n : ℕ) → call ≡ Load → call ≡ CasWeak e n → ⊥
not_weak call e n load weak = cc

never_spurious : (S : Shape) (scripts : List (List Line)) (H before : List Entry) (x : Entry) (rest : List Entry) → length scripts ≤ 1 → IsCellRun (cells_of_shape S) scripts H → H ≡ before ++ x ∷ rest → (IsSpuriousEntry x → IsEarned S before x) → IsSpuriousEntry x → ⊥
never_spurious S scripts H before x rest few run split earned spurious = dite (ℕ_discrete x.caller 0)
    (λ zeroth.
    let loads = subst (AllByRecursion (λ y. y.caller ≡ 0 → y.call ≡ Load)) split (zeroth_loads (cells_of_shape S) scripts H run) in
    not_weak x.call spurious.0 spurious.1 ((all_rest (λ y. y.caller ≡ 0 → y.call ≡ Load) before (x ∷ rest) loads).0 zeroth) spurious.2)
    (λ other. nothing_earns_none S before x (alone_before (cells_of_shape S) scripts H before x rest few run split other) (earned spurious))

table_replies : (S : Shape) (scripts : List (List Line)) (H : List Entry) → length scripts ≤ 1 → IsRun S scripts H → Each (HasTableReply (cells_of_shape S)) H
unfolding Each
table_replies S scripts H few run before x rest split =
    told (slice_get (cells_of_shape S) x.object) x (value_of (cells_of_shape S) before x.object) (run.run.legal before x rest split)
    (never_spurious S scripts H before x rest few run.run split (run.earned before x rest split))

pub one_thread_runs_alike : OneThreadRunsAlike
one_thread_runs_alike S Z scripts H K same few run other =
    only_run (cells_of_shape S) scripts H few run.run (table_replies S scripts H few run)
    ∙ ap (λ cells. plain_history cells scripts) same
    ∙ sym (only_run (cells_of_shape Z) scripts K few other.run (table_replies Z scripts K few other))
