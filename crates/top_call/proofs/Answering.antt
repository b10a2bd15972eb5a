-- The replies of a run of a workload are values of their objects' kinds, so they can be reported.
use Rattle.std.proofs.Common.{◌≡◌, ⊎_elim, inl, inr, ℕ, zero, suc, ◌+◌, ◌<◌, ◌≤◌, List, [], ◌∷◌, ◌++◌, length, refl, sym, subst, ap, ◌∙◌, arith}
use Rattle.std.specs.Prelude.{Option, Some, slice_get, IsSomeAnd, map}
use Rattle.std.specs.List.{AllByRecursion}
use Rattle.std.proofs.lemmas.List.{length-map}
use mathlib.Core.Logic.{dite}
use native.Mathlib.Decide.{ℕ_discrete}
use Rattle.op_table.specs.declared.kind.Kind.{Kind}
use Rattle.op_table.specs.declared.call.Call.{Call}
use Rattle.op_table.specs.declared.call.Call.TheVariants.{Load, CasWeak}
use Rattle.op_table.specs.declared.call.Reply.{Reply}
use Rattle.op_table.specs.Kind.{values_of, IsKind}
use Rattle.op_table.specs.Call.{after_of, answer_of, CallFits, ReplyFits, IsSpurious, Permits}
use Rattle.op_table.proofs.Rows.{answer_fits}
use Rattle.target_desc.specs.declared.target.Target.{Target}
use Rattle.target_desc.specs.Target.{IsTarget, IsVersion}
use Rattle.place_core.specs.declared.entry.Entry.{Entry}
use Rattle.place_core.specs.declared.name.Declared.{Declared}
use Rattle.place_core.specs.declared.places.Object.{Object}
use Rattle.place_core.specs.declared.script.Line.{Line}
use Rattle.place_core.specs.declared.shape.Shape.{Shape}
use Rattle.place_core.specs.Histories.{Each}
use Rattle.place_core.specs.Cells.{Cell, left_by, value_of, entries_by, IsLawful, IsLegal}
use Rattle.place_core.specs.DeclaredObjects.{cell_of, cells_of}
use Rattle.place_core.specs.Runs.{made_of, asked_of, HasCall, ScriptFits, ScriptsFit, replies_by, replies_from, FollowScripts, loads_from}
use Rattle.place_core.specs.Shapes.{kind_of, cells_of_shape, IsShape}
use Rattle.place_core.proofs.EntryLists.{Each-append_left, made_by-none, made_by-own_first, made_by-other_first}
use Rattle.place_core.proofs.LegalValues.{value_fits}
use Rattle.place_core.proofs.ShapeFacts.{kind_of-at}
use Rattle.layout_plan.specs.Layout.{AreDeclared, shape_of}
use Rattle.layout_plan.proofs.LaidObjects.{laid_is_declared, laid_has_cells}
use Rattle.layout_plan.proofs.Laying.{laid_is_shape}
use Rattle.ledger_sums.specs.Fixed.{lines_of, fixed_values_of}
use Rattle.ledger_sums.proofs.Tallying.{length-fixed_from}
use Rattle.work_lang.specs.Limits.{limits_of}
use Rattle.work_lang.specs.Workload.{Workload, threads_of, IsWork, HasLine, LineFits}
use Rattle.work_lang.proofs.CanonicalSteps.{threads_fit}
use Rattle.work_lang.specs.Reading.{kind_at}
use Rattle.report_text.specs.Report.{AnswerLines, AnswerThreads, AnswerObjects, fixed_of}
use Rattle.report_text.proofs.LineKinds.{kind_read}
use Rattle.top_call.specs.declared.outcome.Ended.{Ended}
use Rattle.top_call.specs.Running.{IsRunOf}

-- ---- entries of a legal history

spurious_fits : (kind : Kind) (call : Call) (v : ℕ) (r : Reply) (w : ℕ) → v < values_of kind → IsSpurious call v r w → ReplyFits kind r
spurious_fits kind (CasWeak e n) v r w lt spurious = subst (ReplyFits kind) (sym spurious.1) lt
spurious_fits kind _ v r w lt spurious = absurd spurious

permitted_fits : (kind : Kind) (call : Call) (v : ℕ) (r : Reply) (w : ℕ) → IsKind kind → CallFits kind call → v < values_of kind → Permits kind call v r w → ReplyFits kind r
permitted_fits kind call v r w valid fits lt permits = ⊎_elim
    (λ (t : (r ≡ answer_of kind call v) × (w ≡ after_of kind call v)). subst (ReplyFits kind) (sym t.0) (answer_fits kind call v valid fits lt))
    (λ (t : IsSpurious call v r w). spurious_fits kind call v r w lt t)
    permits

-- the object of a cell that is there
object_there : (P : Cell → Type 0) (xs : List Object) (o : ℕ) → IsSomeAnd (slice_get (map (λ (a : Object). let c : Cell = record { kind = a.kind; start = a.start } in c) xs) o) P
    → (a : Object) × (slice_get xs o ≡ Some a) × P (record { kind = a.kind; start = a.start })
object_there P [] o there = absurd there
object_there P (x ∷ xs) zero there = (x, refl, there)
object_there P (x ∷ xs) (suc o) there = object_there P xs o there

-- the number in the entry's reply is a value of its object's kind
abbrev Fits : Shape → Entry → Type 0
Fits S x = ReplyFits (kind_of S x.object) x.reply

entry_fits : (S : Shape) → IsShape S → (G : List Entry) (x : Entry) → IsLegal (cells_of_shape S) G → IsLawful (cells_of_shape S) G x → Fits S x
entry_fits S ok G x legal lawful =
    let v : ℕ = value_of (cells_of_shape S) G x.object in
    let it = object_there (λ (cell : Cell). CallFits cell.kind x.call × Permits cell.kind x.call v x.reply (left_by cell.kind x v)) S.objects x.object lawful in
    let kind : kind_of S x.object ≡ it.0.kind = kind_of-at S x.object it.0 it.1 in
    let lt : v < values_of it.0.kind = subst (λ (k : Kind). v < values_of k) kind (value_fits S ok G legal x.object) in
    subst (λ (k : Kind). ReplyFits k x.reply) (sym kind)
    (permitted_fits it.0.kind x.call v x.reply (left_by it.0.kind x v) (subst IsKind kind (ok.kinds x.object)) it.2.0 lt it.2.1)

all_of_each : (P : Entry → Type 0) (H : List Entry) → ((before : List Entry) (x : Entry) (rest : List Entry) → H ≡ before ++ x ∷ rest → P x) → AllByRecursion P H
all_of_each P [] each = tt
all_of_each P (x ∷ H) each = (each [] x H refl, all_of_each P H (λ before y rest e. each (x ∷ before) y rest (ap (λ (l : List Entry). x ∷ l) e)))

legal_fits : (S : Shape) → IsShape S → (H : List Entry) → IsLegal (cells_of_shape S) H → AllByRecursion (Fits S) H
unfolding Each
legal_fits S ok H legal = all_of_each (Fits S) H (λ before x rest e.
    entry_fits S ok before x (Each-append_left (IsLawful (cells_of_shape S)) before (x ∷ rest) (subst (IsLegal (cells_of_shape S)) e legal)) (legal before x rest e))

-- of a caller's entries too
own_fit : (P : Entry → Type 0) (H : List Entry) (c : ℕ) → AllByRecursion P H → AllByRecursion P (entries_by H c)
own_fit P [] c all = subst (AllByRecursion P) (sym (made_by-none (λ (x : Entry). x.caller) c)) tt
own_fit P (x ∷ H) c all = dite (ℕ_discrete x.caller c)
    (λ own. subst (AllByRecursion P) (sym (made_by-own_first (λ (y : Entry). y.caller) x H c own)) (all.0, own_fit P H c all.1))
    (λ other. subst (AllByRecursion P) (sym (made_by-other_first (λ (y : Entry). y.caller) x H c other)) (own_fit P H c all.1))

-- ---- replies of scripts and of the last loads

-- the objects of the shape are these
abbrev HasKinds : Shape → List Declared → Type 0
HasKinds S objects = (o : ℕ) (d : Declared) → slice_get objects o ≡ Some d → kind_of S o ≡ d.kind

-- the object of a line that fits
declared_there : (P : Declared → Type 0) (xs : List Declared) (o : ℕ) → IsSomeAnd (slice_get xs o) P → (d : Declared) × (slice_get xs o ≡ Some d)
declared_there P [] o there = absurd there
declared_there P (x ∷ xs) zero there = (x, refl)
declared_there P (x ∷ xs) (suc o) there = declared_there P xs o there

module _ (S : Shape) (objects : List Declared) (kinds : HasKinds S objects) where
  answer_line : (line : Line) (x : Entry) → made_of x ≡ asked_of line → LineFits objects line → Fits S x → ReplyFits (kind_at objects line.object) x.reply
  answer_line line x same line_fits fits =
      let there = declared_there (HasLine line) objects line.object line_fits in
      let object : x.object ≡ line.object = ap (λ (a : ℕ × Call). a.0) same in
      subst (λ (k : Kind). ReplyFits k x.reply)
      (ap (kind_of S) object ∙ kinds line.object there.0 there.1 ∙ sym (kind_read objects line.object there.0 there.1)) fits

  answer_lines : (lines : List Line) (E : List Entry) → map made_of E ≡ map asked_of lines → AllByRecursion (LineFits objects) lines → AllByRecursion (Fits S) E
      → AnswerLines objects lines (map (λ (x : Entry). x.reply) E)
  answer_lines [] [] same line_fits fits = tt
  answer_lines [] (x ∷ E) same line_fits fits = absurd cc
  answer_lines (line ∷ lines) [] same line_fits fits = absurd cc
  answer_lines (line ∷ lines) (x ∷ E) same line_fits fits =
      (answer_line line x (cc (same)) line_fits.0 fits.0, answer_lines lines E (cc (same)) line_fits.1 fits.1)

  answer_threads : (H : List Entry) (i : ℕ) (threads : List (List Line)) → AllByRecursion (Fits S) H → FollowScripts H i threads → AllByRecursion (AllByRecursion (LineFits objects)) threads
      → AnswerThreads objects threads (replies_from H i threads)
  answer_threads H i [] fits follow line_fits = tt
  answer_threads H i (lines ∷ threads) fits follow line_fits = (
    answer_lines lines (entries_by H i) follow.0 line_fits.0 (own_fit (Fits S) H i fits),
    answer_threads H (i + 1) threads fits follow.1 line_fits.1,
  )

  -- the loads of the objects from number o on
  answer_loads : (o : ℕ) (ds : List Declared) (E : List Entry) → ((i : ℕ) (d : Declared) → slice_get ds i ≡ Some d → slice_get objects (o + i) ≡ Some d)
      → map made_of E ≡ loads_from o (cells_of ds) → AllByRecursion (Fits S) E → AnswerObjects ds (map (λ (x : Entry). x.reply) E)
  answer_loads o [] [] within same fits = tt
  answer_loads o [] (x ∷ E) within same fits = absurd cc
  answer_loads o (d ∷ ds) [] within same fits = absurd cc
  answer_loads o (d ∷ ds) (x ∷ E) within same fits =
      let here : slice_get objects o ≡ Some d = subst (λ (i : ℕ). slice_get objects i ≡ Some d) (omega arith) (within 0 d refl) in
      let head : made_of x ≡ (o, Load) = cc (same) in
      let object : x.object ≡ o = ap (λ (a : ℕ × Call). a.0) head in (
        subst (λ (k : Kind). ReplyFits k x.reply) (ap (kind_of S) object ∙ kinds o d here) fits.0,
        answer_loads (o + 1) ds E (λ i c at. subst (λ (j : ℕ). slice_get objects j ≡ Some c) (omega arith) (within (suc i) c at)) (cc (same)) fits.1,
      )

-- ---- a run of a workload

few_of_version : (version : ℕ) → IsVersion version → (limits_of version).objects ≤ 4096
few_of_version version (inl one) = subst (λ (v : ℕ). (limits_of v).objects ≤ 4096) (sym one) (omega arith)
few_of_version version (inr two) = subst (λ (v : ℕ). (limits_of v).objects ≤ 4096) (sym two) (omega arith)

-- a workload's objects are few enough for a shape
few_in_shape : (w : Workload) → IsWork w → length w.objects ≤ 65536
few_in_shape w work = let most = few_of_version w.version work.version in omega (arith, most, work.few_objects)

-- what a report asks of the replies
pub record CanReport (w : Workload) (H : List Entry) : Type 0 where
  pub threads : AnswerThreads w.objects (threads_of w) (replies_from H 1 (threads_of w))
  pub last : AnswerObjects w.objects (replies_by H 0)

pub can_report : (w : Workload) (H : List Entry) → IsTarget w.target → AreDeclared w.objects → IsWork w → IsLegal (cells_of_shape (shape_of w.target w.objects)) H → FollowScripts H 1 (threads_of w)
    → map made_of (entries_by H 0) ≡ loads_from 0 (cells_of_shape (shape_of w.target w.objects)) → CanReport w H
can_report w H target declared work legal follow loads =
    let S : Shape = shape_of w.target w.objects in
    let few : length w.objects ≤ 65536 = few_in_shape w work in
    let ok : IsShape S = laid_is_shape w.target w.objects target declared few in
    let kinds : HasKinds S w.objects = λ o d at. (laid_is_declared w.target w.objects o d at).1 in
    let fits : AllByRecursion (Fits S) H = legal_fits S ok H legal in
    record {
      threads = answer_threads S w.objects kinds H 1 (threads_of w) fits follow (threads_fit w work);
      last = answer_loads S w.objects kinds 0 w.objects (entries_by H 0) (λ i d at. subst (λ (j : ℕ). slice_get w.objects j ≡ Some d) (omega arith) at)
          (loads ∙ ap (loads_from 0) (laid_has_cells w.target w.objects)) (own_fit (Fits S) H 0 fits);
    }

-- the replies of a run that ended can be reported
pub threads_answer : (e : Ended) (rs : List (List Reply)) → IsWork e.work → IsRunOf e.work e → rs ≡ replies_from e.root.seen 1 (threads_of e.work) → AnswerThreads e.work.objects (threads_of e.work) rs
threads_answer e rs work ran same = let run = ran.1.run.run in
    subst (AnswerThreads e.work.objects (threads_of e.work)) (sym same)
    (can_report e.work e.root.seen work.target work.objects work run.legal run.scripted run.ends.loads).threads

pub last_answers : (e : Ended) (rs : List Reply) → IsWork e.work → IsRunOf e.work e → rs ≡ replies_by e.root.seen 0 → AnswerObjects e.work.objects rs
last_answers e rs work ran same = let run = ran.1.run.run in
    subst (AnswerObjects e.work.objects) (sym same)
    (can_report e.work e.root.seen work.target work.objects work run.legal run.scripted run.ends.loads).last

-- ---- scripts of a workload

-- the shape is laid for the target and the objects of the workload
pub laid_for : (w : Workload) (S : Shape) (t : Target) (ds : List Declared)
    → S ≡ shape_of t ds → t ≡ w.target → ds ≡ w.objects → S ≡ shape_of w.target w.objects
laid_for w S t ds laid target objects =
    laid
    ∙ ap (λ (u : Target). shape_of u ds) target
    ∙ ap (λ (os : List Declared). shape_of w.target os) objects

cell_there : (ds : List Declared) (o : ℕ) (d : Declared) → slice_get ds o ≡ Some d → slice_get (cells_of ds) o ≡ Some (cell_of d)
cell_there [] o d at = absurd cc
cell_there (x ∷ ds) zero d at = let same : x ≡ d = cc in ap (λ (y : Declared). Some (cell_of y)) same
cell_there (x ∷ ds) (suc o) d at = cell_there ds o d at

declared_has : (P : Declared → Type 0) (xs : List Declared) (o : ℕ) → IsSomeAnd (slice_get xs o) P → (d : Declared) × (slice_get xs o ≡ Some d) × P d
declared_has P [] o there = absurd there
declared_has P (x ∷ xs) zero there = (x, refl, there)
declared_has P (x ∷ xs) (suc o) there = declared_has P xs o there

line_has : (ds : List Declared) (line : Line) → LineFits ds line → HasCall (cells_of ds) (asked_of line)
line_has ds line fits =
    let it = declared_has (HasLine line) ds line.object fits in
    subst (λ c. IsSomeAnd c (λ (cell : Cell). CallFits cell.kind line.call)) (sym (cell_there ds line.object it.0 it.1)) it.2.0

script_fits : (ds : List Declared) (lines : List Line) → AllByRecursion (LineFits ds) lines → ScriptFits (cells_of ds) lines
script_fits ds [] fits = tt
script_fits ds (line ∷ lines) fits = (line_has ds line fits.0, script_fits ds lines fits.1)

declared_fit : (ds : List Declared) (threads : List (List Line)) → AllByRecursion (AllByRecursion (LineFits ds)) threads → ScriptsFit (cells_of ds) threads
declared_fit ds [] fits = tt
declared_fit ds (lines ∷ threads) fits = (script_fits ds lines fits.0, declared_fit ds threads fits.1)

-- lines that fit the objects fit the shape that is laid for them
pub laid_fit : (w : Workload) (S : Shape) (threads : List (List Line)) → S ≡ shape_of w.target w.objects → threads ≡ threads_of w
    → AllByRecursion (AllByRecursion (LineFits w.objects)) (threads_of w) → ScriptsFit (cells_of_shape S) threads
laid_fit w S threads laid same fits =
    subst (λ (Z : Shape). ScriptsFit (cells_of_shape Z) threads) (sym laid)
    (subst (λ (cells : List Cell). ScriptsFit cells threads) (sym (laid_has_cells w.target w.objects))
    (subst (λ (ts : List (List Line)). ScriptsFit (cells_of w.objects) ts) (sym same) (declared_fit w.objects (threads_of w) fits)))

-- ---- fixed values

-- the objects of the shape that is laid have the declared ones' fixed values
pub laid_fixed : (w : Workload) (S : Shape) (threads : List (List Line)) (fixed : List (Option ℕ))
    → S ≡ shape_of w.target w.objects → threads ≡ threads_of w
    → fixed ≡ fixed_values_of (cells_of_shape S) threads → fixed ≡ fixed_of w
laid_fixed w S threads fixed laid same told =
    told
    ∙ ap (λ (Z : Shape). fixed_values_of (cells_of_shape Z) threads) laid
    ∙ ap (λ (cells : List Cell). fixed_values_of cells threads) (laid_has_cells w.target w.objects)
    ∙ ap (λ (ts : List (List Line)). fixed_values_of (cells_of w.objects) ts) same

-- there is one for each object
pub length-fixed_of : (w : Workload) → length (fixed_of w) ≡ length w.objects
length-fixed_of w = length-fixed_from (lines_of (threads_of w)) 0 (cells_of w.objects) ∙ length-map w.objects cell_of
