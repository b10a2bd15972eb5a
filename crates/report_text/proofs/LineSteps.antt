-- One more line of a report.
use Rattle.std.proofs.Common.{◌≡◌, ℕ, ◌+◌, ◌-◌, ◌≤◌, List, [], ◌∷◌, ◌++◌, length, map, drop, get_or, refl, subst, ap, ◌∙◌, arith}
use Rattle.std.specs.Prelude.{Option, Some, slice_get, codes}
use Rattle.std.proofs.lemmas.List.{drop_all, length-drop}
use Rattle.op_table.specs.declared.call.Reply.{Reply}
use Rattle.place_core.specs.RepliesState.{RepliesState}
use Rattle.place_core.specs.declared.name.Declared.{Declared}
use Rattle.place_core.specs.declared.script.Line.{Line}
use Rattle.place_core.specs.declared.script.Piece.{Piece}
use Rattle.place_core.specs.Pieces.{script_lines}
use Rattle.target_desc.specs.declared.target.Target.{Target}
use Rattle.work_lang.specs.Workload.{Workload, threads_of}
use Rattle.work_lang.specs.Canonical.{target_line}
use Rattle.report_text.specs.Report.{lines_with, reply_line, reply_lines, thread_head, thread_lines, last_line, last_lines, items_of, AnswerLines, AnswerThreads}
use Rattle.place_core.proofs.Prefixes.{drop-next}
use Rattle.work_lang.proofs.Firsts.{others, item_others}
use Rattle.report_text.proofs.Walks.{pairs_length}

-- the line that was taken is the first of those that were left, and this is its reply
pub reply_lines_next : (objects : List Declared) (lines left : List Line) (rs : List Reply) (i : ℕ) (l : Line) (r : Reply) → lines ≡ l ∷ left → slice_get rs i ≡ Some r → reply_lines objects lines (drop i rs) ≡ (reply_line objects l r ∷ []) ++ reply_lines objects left (drop (i + 1) rs)
reply_lines_next objects lines left rs i l r first at =
    ap (λ x. reply_lines objects x (drop i rs)) first ∙ ap (λ x. reply_lines objects (l ∷ left) x) (drop-next rs i r at)

pub answers_next : (objects : List Declared) (lines left : List Line) (rs : List Reply) (i : ℕ) (l : Line) (r : Reply) → lines ≡ l ∷ left → slice_get rs i ≡ Some r → AnswerLines objects lines (drop i rs) → AnswerLines objects (l ∷ left) (r ∷ drop (i + 1) rs)
answers_next objects lines left rs i l r first at all =
    subst (λ x. AnswerLines objects (l ∷ left) x) (drop-next rs i r at) (subst (λ x. AnswerLines objects x (drop i rs)) first all)

-- as many replies are left as lines
left_alike : (objects : List Declared) (lines : List Line) (rs : List Reply) (i : ℕ) → AnswerLines objects lines (drop i rs) → length lines ≡ length rs - i
left_alike objects lines rs i all = pairs_length _ lines (drop i rs) all ∙ length-drop i rs

-- where no line is left no reply is left
pub no_line : (objects : List Declared) (lines : List Line) (rs : List Reply) (i : ℕ) → lines ≡ [] → AnswerLines objects lines (drop i rs) → length rs ≤ i
no_line objects lines rs i none all = omega (arith, ap length none, left_alike objects lines rs i all)

-- where no reply is left no line is left
pub no_reply : (objects : List Declared) (lines : List Line) (rs : List Reply) (i : ℕ) → length rs ≤ i → AnswerLines objects lines (drop i rs) → reply_lines objects lines (drop i rs) ≡ []
no_reply objects [] rs i past all = refl
no_reply objects (l ∷ lines) rs i past all = absurd (omega (arith, left_alike objects (l ∷ lines) rs i all))

pub last_lines_at : (ds : List Declared) (rs : List Reply) (fs : List (Option ℕ)) (i : ℕ) (d : Declared) (r : Reply) (f : Option ℕ)
    → slice_get ds i ≡ Some d → slice_get rs i ≡ Some r → slice_get fs i ≡ Some f
    → last_lines (drop i ds) (drop i rs) (drop i fs)
    ≡ (last_line d r f ∷ []) ++ last_lines (drop (i + 1) ds) (drop (i + 1) rs) (drop (i + 1) fs)
last_lines_at ds rs fs i d r f atd atr atf =
    ap (λ x. last_lines x (drop i rs) (drop i fs)) (drop-next ds i d atd)
    ∙ ap (λ x. last_lines (d ∷ drop (i + 1) ds) x (drop i fs)) (drop-next rs i r atr)
    ∙ ap (λ x. last_lines (d ∷ drop (i + 1) ds) (r ∷ drop (i + 1) rs) x) (drop-next fs i f atf)

pub threads_step : (objects : List Declared) (n : ℕ) (scripts : List (List Piece)) (ks : List RepliesState) (script : List Piece) (k : RepliesState) → 1 ≤ length scripts → 1 ≤ length ks → script ≡ get_or scripts 0 script → k ≡ get_or ks 0 k → thread_lines objects n (map script_lines scripts) (map items_of ks) ≡ (thread_head n ∷ []) ++ (reply_lines objects (script_lines script) k.items ++ thread_lines objects (n + 1) (map script_lines (others scripts)) (map items_of (others ks)))
threads_step objects n scripts ks script k some more is at =
    ap (λ l. thread_lines objects n (map script_lines l) (map items_of ks)) (item_others scripts script some is)
    ∙ ap (λ l. thread_lines objects n (map script_lines (script ∷ others scripts)) (map items_of l)) (item_others ks k more at)

-- the first script's replies, and those of the others
pub answer_parts : (objects : List Declared) (scripts : List (List Piece)) (ks : List RepliesState) (script : List Piece) (k : RepliesState) → 1 ≤ length scripts → 1 ≤ length ks → script ≡ get_or scripts 0 script → k ≡ get_or ks 0 k → AnswerThreads objects (map script_lines scripts) (map items_of ks) → AnswerLines objects (script_lines script) k.items × AnswerThreads objects (map script_lines (others scripts)) (map items_of (others ks))
answer_parts objects scripts ks script k some more is at all =
    subst (λ l. AnswerThreads objects (map script_lines (script ∷ others scripts)) (map items_of l)) (item_others ks k more at)
    (subst (λ l. AnswerThreads objects (map script_lines l) (map items_of ks)) (item_others scripts script some is) all)

pub last_lines_end : (ds : List Declared) (rs : List Reply) (fs : List (Option ℕ)) (i : ℕ) → length ds ≤ i
    → last_lines (drop i ds) (drop i rs) (drop i fs) ≡ []
last_lines_end ds rs fs i past = ap (λ x. last_lines x (drop i rs) (drop i fs)) (drop_all i ds past)

-- the parts of a report, of the objects and threads of its workload
pub lines_made : (w : Workload) (t : Target) (os : List Declared) (ts : List (List Line)) (replies : List (List Reply)) (last : List Reply)
    (fixed : List (Option ℕ)) → t ≡ w.target → os ≡ w.objects → ts ≡ threads_of w
    → (target_line t ∷ []) ++ (thread_lines os 1 ts replies ++ ((codes "last\n" ∷ []) ++ last_lines os last fixed))
    ≡ lines_with w replies last fixed
lines_made w t os ts replies last fixed target objects threads =
    ap (λ x. target_line x ∷ (thread_lines os 1 ts replies ++ codes "last\n" ∷ last_lines os last fixed)) target
    ∙ ap (λ x. target_line w.target ∷ (thread_lines x 1 ts replies ++ codes "last\n" ∷ last_lines x last fixed)) objects
    ∙ ap (λ x. target_line w.target ∷ (thread_lines w.objects 1 x replies ++ codes "last\n" ∷ last_lines w.objects last fixed)) threads
