-- Runs of generated workloads: their last replies are values, and their lines are told by three numbers alone.
use Rattle.std.proofs.Common.{◌≡◌, ◌∙◌, true, ℕ, List, [], ◌∷◌, refl, sym, subst, ap}
use Rattle.op_table.specs.declared.call.Reply.{Reply}
use Rattle.place_core.specs.declared.entry.Entry.{Entry}
use Rattle.place_core.specs.declared.name.Declared.{Declared}
use Rattle.place_core.specs.DeclaredObjects.{cells_of}
use Rattle.place_core.specs.Cells.{Cell}
use Rattle.place_core.specs.Runs.{IsCellRun, replies_by}
use Rattle.place_core.specs.Shapes.{cells_of_shape}
use Rattle.layout_plan.specs.Layout.{shape_of}
use Rattle.layout_plan.proofs.LaidObjects.{laid_has_cells}
use Rattle.work_lang.specs.Workload.{Workload, IsWork, threads_of}
use Rattle.work_lang.specs.Generated.{generated_objects, many_fits, many_of}
use Rattle.report_text.specs.Report.{AnswerObjects}
use Rattle.report_text.specs.Many.{AreValues, many_lines, many_with}
use Rattle.report_text.proofs.LastLoads.{last_replies, value_replies, values_from}
use Rattle.report_text.proofs.ManyValues.{many_is_fixed}
use Rattle.top_call.specs.declared.outcome.Ended.{Ended}
use Rattle.top_call.specs.Running.{IsRunOf}
use Rattle.top_call.proofs.Answering.{last_answers}

-- values that fit are values
values_answer : (ds : List Declared) (vs : List ℕ) → AnswerObjects ds (value_replies vs) → AreValues ds (value_replies vs)
values_answer [] [] answers = tt
values_answer [] (v ∷ vs) answers = absurd answers
values_answer (d ∷ ds) [] answers = absurd answers
values_answer (d ∷ ds) (v ∷ vs) answers = (answers.0, values_answer ds vs answers.1)

-- the last loads of a run reply a value for each object
pub last_values : (e : Ended) (rs : List Reply) → IsWork e.work → IsRunOf e.work e → rs ≡ replies_by e.root.seen 0 → AreValues e.work.objects rs
last_values e rs work ran same =
    let cells = cells_of_shape (shape_of e.work.target e.work.objects) in
    let are : rs ≡ value_replies (values_from cells e.root.seen 0 cells) = same ∙ last_replies cells (threads_of e.work) e.root.seen ran.1.run.run in
    subst (AreValues e.work.objects) (sym are)
    (values_answer e.work.objects (values_from cells e.root.seen 0 cells) (subst (AnswerObjects e.work.objects) are (last_answers e rs work ran same)))

-- ---- the lines of a generated run

objects_are : (seed threads calls : ℕ) → (many_of seed threads calls).objects ≡ generated_objects
unfolding many_of
objects_are seed threads calls = refl

told_of : (seed threads calls : ℕ) (w : Workload) (H : List Entry) → w ≡ many_of seed threads calls → many_fits threads calls ≡ true
    → IsCellRun (cells_of_shape (shape_of w.target w.objects)) (threads_of w) H → many_with seed threads calls w.objects (replies_by H 0) ≡ many_lines seed threads calls
told_of seed threads calls w H is fits run =
    let objects : w.objects ≡ generated_objects = ap (λ (v : Workload). v.objects) is ∙ objects_are seed threads calls in
    let cells : cells_of_shape (shape_of w.target w.objects) ≡ cells_of generated_objects = laid_has_cells w.target w.objects ∙ ap cells_of objects in
    let over : IsCellRun (cells_of generated_objects) (threads_of (many_of seed threads calls)) H =
    subst (λ (v : Workload). IsCellRun (cells_of generated_objects) (threads_of v) H) is (subst (λ (cs : List Cell). IsCellRun cs (threads_of w) H) cells run) in
    ap (λ (os : List Declared). many_with seed threads calls os (replies_by H 0)) objects ∙ many_is_fixed seed threads calls H fits over

pub many_told : (seed threads calls : ℕ) (e : Ended) → many_fits threads calls ≡ true → IsRunOf (many_of seed threads calls) e
    → many_with seed threads calls e.work.objects (replies_by e.root.seen 0) ≡ many_lines seed threads calls
many_told seed threads calls e fits ran = told_of seed threads calls e.work e.root.seen ran.0 fits ran.1.run.run
