-- Passes that are given one after another, and what they are once their scripts were run.
use Rattle.std.proofs.Common.{◌≡◌, ℕ, ◌+◌, List, [], ◌∷◌, ◌++◌, length, map, take, drop, refl, ap, sym, ◌∙◌, subst, arith, append_assoc, length-append}
use Rattle.std.proofs.lemmas.List.{length-map, map-append}
use Rattle.std.proofs.Math.Seq.{take-append_seam}
use Rattle.op_table.specs.declared.call.Reply.{Reply}
use Rattle.place_core.specs.declared.entry.Entry.{Entry}
use Rattle.place_core.specs.declared.shape.Shape.{Shape}
use Rattle.place_core.specs.declared.script.Piece.{Piece}
use Rattle.place_core.specs.Pieces.{script_lines}
use Rattle.place_core.specs.RepliesState.{RepliesState}
use Rattle.place_core.specs.Runs.{asked_by, ScriptFits, ScriptsFit}
use Rattle.place_core.specs.Shapes.{cells_of_shape}
use Rattle.seat_views.specs.States.{ArenaState, PassState, IsOf, IsKept}
use Rattle.seat_views.specs.Makes.{entries_with, MakesCalls}
use Rattle.runner.specs.declared.worker.Keep.{Keep}
use Rattle.runner.specs.declared.worker.Keep.TheVariants.{Replies, Nothing}
use Rattle.runner.specs.declared.worker.Worker.{Worker}
use Rattle.runner.specs.Scripts.{IsSet, IsReadyTo, AreReadyTo, HasRun, HasRunTo, HaveRunTo}
use Rattle.whole_run.specs.Stages.{root_of, pass_of, told_by, IsManned, AreManned, HasManned, IsDone, AreDone, HaveKept, HaveNone}
use Rattle.whole_run.proofs.Threads.{replies_with}

-- ---- passes given

AreManned-more : (keep : Keep) (a : ArenaState) (i j : ℕ) (ws : List Worker) (w : Worker) → AreManned keep a i ws → j ≡ i + length ws → IsManned keep a j w → AreManned keep a i (ws ++ w ∷ [])
AreManned-more keep a i j [] w all at manned = let same : j ≡ i = omega arith in (subst (λ n. IsManned keep a n w) same manned, tt)
AreManned-more keep a i j (v ∷ ws) w all at manned = (all.0, AreManned-more keep a (i + 1) j ws w all.1 (omega arith) manned)

-- one more
pub manned_more : (keep : Keep) (a : ArenaState) (ws : List Worker) (p : PassState) (w : Worker) (q : PassState)
    → HasManned keep a ws p → q ≡ root_of a (p.given + 1) → IsKept q → IsManned keep a (p.given + 1) w → HasManned keep a (ws ++ w ∷ []) q
manned_more keep a ws p w q h now kept manned =
    let given : p.given ≡ length ws = ap (λ (r : PassState). r.given) h.root in record {
      root = now ∙ ap (root_of a) (omega (arith, given, length-append ws (w ∷ [])));
      kept = kept;
      manned = AreManned-more keep a 1 (p.given + 1) ws w h.manned (omega arith) manned;
    }

-- the scripts of these workers, and those that are left
pub scripts_more : (ws : List Worker) (w : Worker) (script : List Piece) (rest left all : List (List Piece)) → map (λ (v : Worker). v.script) ws ++ rest ≡ all → rest ≡ script ∷ left → w.script ≡ script
    → map (λ (v : Worker). v.script) (ws ++ w ∷ []) ++ left ≡ all
scripts_more ws w script rest left all e cut same =
    let script_of = λ (v : Worker). v.script in
    ap (λ (l : List (List Piece)). l ++ left) (map-append script_of ws (w ∷ []))
    ∙ (append_assoc (map script_of ws) (w.script ∷ []) left
    ∙ (ap (λ (s : List Piece). map script_of ws ++ s ∷ left) same ∙ (ap (λ (l : List (List Piece)). map script_of ws ++ l) (sym cut) ∙ e)))

-- ---- workers that can run

IsManned-set : (keep : Keep) (a : ArenaState) (i : ℕ) (w : Worker) → IsManned keep a i w → ScriptFits (cells_of_shape a.shape) (script_lines w.script) → IsSet a w
IsManned-set keep a i w m fits = record {
  arena = subst (IsOf a) (sym m.pass) (refl, refl);
  rest = ap (λ (p : PassState). p.flight) m.pass;
  fits = fits;
}

IsManned-ready : (keep : Keep) (a : ArenaState) (i : ℕ) (w : Worker) → IsManned keep a i w → ScriptFits (cells_of_shape a.shape) (script_lines w.script) → IsReadyTo keep a w
IsManned-ready Replies a i w m fits = record { set = IsManned-set Replies a i w m fits; room = m.room refl }
IsManned-ready Nothing a i w m fits = IsManned-set Nothing a i w m fits

pub AreManned-ready : (keep : Keep) (a : ArenaState) (i : ℕ) (ws : List Worker) → AreManned keep a i ws → ScriptsFit (cells_of_shape a.shape) (map script_lines (map (λ (w : Worker). w.script) ws)) → AreReadyTo keep a ws
AreManned-ready keep a i [] all fits = tt
AreManned-ready keep a i (w ∷ ws) all fits = (IsManned-ready keep a i w all.0 fits.0, AreManned-ready keep a (i + 1) ws all.1 fits.1)

-- ---- scripts run

-- a fresh pass that made a script's calls tells their replies
module _ (a : ArenaState) (i : ℕ) (v w : Worker) (p : PassState) (replies : List Reply) (fresh : p ≡ pass_of a i) (script : w.script ≡ v.script) (made : MakesCalls a.shape (asked_by (script_lines v.script)) p replies w.pass) where
  calls : MakesCalls a.shape (asked_by (script_lines w.script)) (pass_of a i) replies w.pass
  calls = subst (λ (x : List Piece × PassState). MakesCalls a.shape (asked_by (script_lines x.0)) x.1 replies w.pass) (λ k. (sym script k, fresh k)) made

  told_is : told_by w ≡ replies
  told_is =
      let mine : w.pass.mine ≡ entries_with i (asked_by (script_lines w.script)) replies = ap (λ (r : PassState). r.mine) calls.made.rest in
      ap (map (λ (x : Entry). x.reply)) mine ∙ replies_with i (asked_by (script_lines w.script)) replies calls.made.count

  is_done : IsDone a i w
  is_done = subst (λ (l : List Reply). MakesCalls a.shape (asked_by (script_lines w.script)) (pass_of a i) l w.pass) (sym told_is) calls

IsManned-done : (keep : Keep) (a : ArenaState) (i : ℕ) (v w : Worker) → IsManned keep a i v → HasRunTo keep a.shape v w → IsDone a i w
IsManned-done Replies a i v w m h = is_done a i v w v.pass h.ran.replies m.pass h.script h.ran.made
IsManned-done Nothing a i v w m h = is_done a i v w v.pass h.ran.replies m.pass h.script h.ran.made

-- each worker that had a fresh pass has made its script's calls
pub AreManned-done : (keep : Keep) (a : ArenaState) (i : ℕ) (vs ws : List Worker) → AreManned keep a i vs → HaveRunTo keep a.shape vs ws → AreDone a i ws
AreManned-done keep a i [] [] all ran = tt
AreManned-done keep a i [] (w ∷ ws) all ran = absurd ran
AreManned-done keep a i (v ∷ vs) [] all ran = absurd ran
AreManned-done keep a i (v ∷ vs) (w ∷ ws) all ran = (IsManned-done keep a i v w all.0 ran.0, AreManned-done keep a (i + 1) vs ws all.1 ran.1)

-- and has their replies, where they are kept
IsManned-kept : (a : ArenaState) (i : ℕ) (v w : Worker) → IsManned Replies a i v → HasRun a.shape v w → w.replies.items ≡ told_by w
IsManned-kept a i v w m h = h.ran.gained ∙ (ap (λ (l : List Reply). l ++ h.ran.replies) m.empty ∙ sym (told_is a i v w v.pass h.ran.replies m.pass h.script h.ran.made))

AreManned-kept : (a : ArenaState) (i : ℕ) (vs ws : List Worker) → AreManned Replies a i vs → HaveRunTo Replies a.shape vs ws → HaveKept ws
AreManned-kept a i [] [] all ran = refl
AreManned-kept a i [] (w ∷ ws) all ran = absurd ran
AreManned-kept a i (v ∷ vs) [] all ran = absurd ran
AreManned-kept a i (v ∷ vs) (w ∷ ws) all ran = let head = IsManned-kept a i v w all.0 ran.0 in let rest = AreManned-kept a (i + 1) vs ws all.1 ran.1 in cc (head, rest)

pub manned_kept : (keep : Keep) (a : ArenaState) (vs ws : List Worker) → keep ≡ Replies → AreManned keep a 1 vs → HaveRunTo keep a.shape vs ws → HaveKept ws
manned_kept keep a vs ws same all ran =
    AreManned-kept a 1 vs ws (subst (λ (k : Keep). AreManned k a 1 vs) same all) (subst (λ (k : Keep). HaveRunTo k a.shape vs ws) same ran)

-- and has none, where nothing is kept
AreManned-none : (a : ArenaState) (i : ℕ) (vs ws : List Worker) → AreManned Nothing a i vs → HaveRunTo Nothing a.shape vs ws → HaveNone ws
AreManned-none a i [] [] all ran = refl
AreManned-none a i [] (w ∷ ws) all ran = absurd ran
AreManned-none a i (v ∷ vs) [] all ran = absurd ran
AreManned-none a i (v ∷ vs) (w ∷ ws) all ran =
    let head : w.replies.items ≡ [] = ap (λ (k : RepliesState). k.items) ran.0.replies ∙ all.0.empty in
    let rest = AreManned-none a (i + 1) vs ws all.1 ran.1 in cc (head, rest)

pub manned_none : (keep : Keep) (a : ArenaState) (vs ws : List Worker) → keep ≡ Nothing → AreManned keep a 1 vs → HaveRunTo keep a.shape vs ws → HaveNone ws
manned_none keep a vs ws same all ran =
    AreManned-none a 1 vs ws (subst (λ (k : Keep). AreManned k a 1 vs) same all) (subst (λ (k : Keep). HaveRunTo k a.shape vs ws) same ran)

-- the scripts stay
HasRun-script : (keep : Keep) (S : Shape) (v w : Worker) → HasRunTo keep S v w → w.script ≡ v.script
HasRun-script Replies S v w ran = ran.script
HasRun-script Nothing S v w ran = ran.script

pub HaveRun-scripts : (keep : Keep) (S : Shape) (vs ws : List Worker) → HaveRunTo keep S vs ws → map (λ (w : Worker). w.script) ws ≡ map (λ (v : Worker). v.script) vs
HaveRun-scripts keep S [] [] ran = refl
HaveRun-scripts keep S [] (w ∷ ws) ran = absurd ran
HaveRun-scripts keep S (v ∷ vs) [] ran = absurd ran
HaveRun-scripts keep S (v ∷ vs) (w ∷ ws) ran = let head = HasRun-script keep S v w ran.0 in let rest = HaveRun-scripts keep S vs ws ran.1 in cc (head, rest)

pub HaveRun-length : (keep : Keep) (S : Shape) (vs ws : List Worker) → HaveRunTo keep S vs ws → length ws ≡ length vs
HaveRun-length keep S vs ws ran = sym (length-map ws (λ (w : Worker). w.script)) ∙ (ap length (HaveRun-scripts keep S vs ws ran) ∙ length-map vs (λ (v : Worker). v.script))

-- the vector that the slice was of has the slice's workers
pub ran_items : (n : ℕ) (old seen new : List Worker) → length seen ≡ n → length new ≡ length seen → take n (new ++ drop (length new) old) ≡ new
ran_items n old seen new size same = ap (λ k. take k (new ++ drop (length new) old)) (sym size ∙ sym same) ∙ take-append_seam new (drop (length new) old)
