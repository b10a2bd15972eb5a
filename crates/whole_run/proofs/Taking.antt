-- Passes that are taken back one after another.
use Rattle.std.proofs.Common.{◌≡◌, ℕ, ◌+◌, ◌*◌, List, [], ◌∷◌, ◌++◌, length, map, refl, ap, sym, ◌∙◌, subst, arith, append_assoc, length-append}
use Rattle.std.proofs.lemmas.List.{length-map, map-append}
use Rattle.op_table.specs.declared.call.Reply.{Reply}
use Rattle.place_core.specs.declared.entry.Entry.{Entry}
use Rattle.place_core.specs.declared.script.Line.{Line}
use Rattle.place_core.specs.declared.script.Piece.{Piece}
use Rattle.place_core.specs.declared.shape.Shape.{Shape}
use Rattle.place_core.specs.Cells.{entries_by}
use Rattle.place_core.specs.RepliesState.{RepliesState}
use Rattle.place_core.specs.Runs.{asked_by}
use Rattle.seat_views.specs.declared.view.Ended.{Ended}
use Rattle.seat_views.specs.declared.view.Item.{Item}
use Rattle.seat_views.specs.Paths.{ArePaths}
use Rattle.seat_views.specs.States.{ArenaState, PassState, IsKept, TakesBack}
use Rattle.seat_views.specs.Makes.{EarnsOwn}
use Rattle.runner.specs.declared.worker.Worker.{Worker}
use Rattle.whole_run.specs.declared.taken.Taken.{Taken}
use Rattle.place_core.specs.Pieces.{script_lines}
use Rattle.whole_run.specs.Stages.{root_of, told_by, IsDone, AreDone, OwnEarned, IsBack, AreBack, HasBack, HasRoom}
use Rattle.whole_run.proofs.Threads.{AreBack-later, AreBack-more}

-- what was taken back of all workers, where these are left
pub record TakesSoFar (a : ArenaState) (all rest : List Worker) (t : Taken) (p : PassState) : Type 0 where
  pub told : List (List Reply)
  pub tells : told ++ map told_by rest ≡ map told_by all
  pub room : HasRoom t (length rest)
  pub scripts : t.scripts.items ++ map (λ (w : Worker). w.script) rest ≡ map (λ (w : Worker). w.script) all
  pub replies : t.replies.items ++ map (λ (w : Worker). w.replies) rest ≡ map (λ (w : Worker). w.replies) all
  pub left : AreDone a (length t.scripts.items + 1) rest
  pub back : HasBack a (length all) (map script_lines t.scripts.items) told p

-- ---- one more

earned_alone : (S : Shape) (i : ℕ) (more seen : List Entry) → seen ≡ [] ++ more → EarnsOwn S i [] more → OwnEarned S i seen
earned_alone S i more seen is earned = subst (OwnEarned S i) (sym is) earned

IsDone-back : (a : ArenaState) (i : ℕ) (w : Worker) (p q : PassState) → IsDone a i w → TakesBack p w.pass q
    → IsBack a.shape q.seen i (script_lines w.script) (told_by w) (record { number = w.pass.number; entries = w.pass.mine; trail = w.pass.trail; aside = w.pass.aside })
IsDone-back a i w p q m t =
    let e = w.pass in
    let number : e.number ≡ i = ap (λ (r : PassState). r.number) m.made.rest in
    let trail : m.steps ≡ e.trail = sym (ap (λ (r : PassState). r.trail) m.made.rest) in record {
      number = number;
      count = m.made.count;
      entries = ap (λ (r : PassState). r.mine) m.made.rest;
      paths = subst (λ (l : List Item). ArePaths a.shape (asked_by (script_lines w.script)) (told_by w) l) trail m.paths;
      aside = ap (λ (r : PassState). r.aside) m.made.rest;
      seen = e.seen;
      front = t.other;
      own = ap (entries_by e.seen) (sym number) ∙ m.made.kept.own;
      earned = earned_alone a.shape i m.made.more e.seen m.made.seen m.made.earned;
    }

HasBack-more : (a : ArenaState) (given j : ℕ) (scripts : List (List Line)) (replies : List (List Reply)) (w : Worker) (p q : PassState) → HasBack a given scripts replies p → j ≡ 1 + length scripts → IsDone a j w → TakesBack p w.pass q
    → HasBack a given (scripts ++ script_lines w.script ∷ []) (replies ++ told_by w ∷ []) q
HasBack-more a given j scripts replies w p q h at done t =
    let d : Ended = record { number = w.pass.number; entries = w.pass.mine; trail = w.pass.trail; aside = w.pass.aside } in
    let ended : p.ended ++ d ∷ [] ≡ q.ended = sym (ap (λ (r : PassState). r.ended) t.rest) in
    let back = AreBack-more a.shape q.seen 1 j scripts (script_lines w.script) replies (told_by w) p.ended d (AreBack-later a.shape p.seen q.seen 1 scripts replies p.ended t.old h.back) at (IsDone-back a j w p q done t) in
    record {
      now =
          let count : given + 2 * length scripts + 2 ≡ given + 2 * length (scripts ++ script_lines w.script ∷ []) = omega (arith, length-append scripts (script_lines w.script ∷ [])) in
          t.rest ∙ (λ k. record (h.now k) { seen = q.seen; aside = (ap (λ (r : PassState). r.aside + 2) h.now ∙ count) k; ended = ended k });
      kept = t.kept;
      back = subst (AreBack a.shape q.seen 1 (scripts ++ script_lines w.script ∷ []) (replies ++ told_by w ∷ [])) ended back;
    }

-- of what is left the first goes over
goes_over : {A : Type 0} (f : Worker → A) (rest left all : List Worker) (w : Worker) (done more : List A) → done ++ map f rest ≡ map f all → rest ≡ w ∷ left → more ≡ done ++ f w ∷ [] → more ++ map f left ≡ map f all
goes_over f rest left all w done more whole cut grown =
    ap (λ (l : List _). l ++ map f left) grown
    ∙ (append_assoc done (f w ∷ []) (map f left)
    ∙ (ap (λ (l : List Worker). done ++ map f l) (sym cut) ∙ whole))

pub takes_more : (a : ArenaState) (all rest left : List Worker) (w : Worker) (t u : Taken) (p q : PassState) → TakesSoFar a all rest t p → rest ≡ w ∷ left → TakesBack p w.pass q
    → u.scripts.items ≡ t.scripts.items ++ w.script ∷ [] → u.replies.items ≡ t.replies.items ++ w.replies ∷ [] → ((n : ℕ) → HasRoom t (n + 1) → HasRoom u n) → TakesSoFar a all left u q
takes_more a all rest left w t u p q h cut took scripts replies room =
    let both : AreDone a (length t.scripts.items + 1) (w ∷ left) = subst (AreDone a (length t.scripts.items + 1)) cut h.left in
    let back = HasBack-more a (length all) (length t.scripts.items + 1) (map script_lines t.scripts.items) h.told w p q h.back (omega (arith, length-map t.scripts.items script_lines)) both.0 took in
    record {
      told = h.told ++ told_by w ∷ [];
      tells = goes_over told_by rest left all w h.told (h.told ++ told_by w ∷ []) h.tells cut refl;
      room = let more : length rest ≡ length left + 1 = ap length cut ∙ omega arith in room (length left) (subst (HasRoom t) more h.room);
      scripts = goes_over (λ (v : Worker). v.script) rest left all w t.scripts.items u.scripts.items h.scripts cut scripts;
      replies = goes_over (λ (v : Worker). v.replies) rest left all w t.replies.items u.replies.items h.replies cut replies;
      left = subst (λ n. AreDone a n left) (omega (arith, ap length scripts, length-append t.scripts.items (w.script ∷ []))) both.1;
      back = subst (λ (x : List (List Line)). HasBack a (length all) x (h.told ++ told_by w ∷ []) q) (sym (ap (map script_lines) scripts ∙ map-append script_lines t.scripts.items (w.script ∷ []))) back;
    }

-- ---- none yet, and all

pub takes_start : (a : ArenaState) (all rest : List Worker) (t : Taken) (p : PassState) → rest ≡ all → p ≡ root_of a (length all) → IsKept p → AreDone a 1 all → t.scripts.items ≡ [] → t.replies.items ≡ [] → HasRoom t (length all) → TakesSoFar a all rest t p
takes_start a all rest t p whole is kept done scripts replies room = subst (λ (l : List Worker). TakesSoFar a all l t p) (sym whole) (record {
  told = [];
  tells = refl;
  room = room;
  scripts = ap (λ (l : List (List Piece)). l ++ map (λ (w : Worker). w.script) all) scripts;
  replies = ap (λ (l : List RepliesState). l ++ map (λ (w : Worker). w.replies) all) replies;
  left = let first : length t.scripts.items + 1 ≡ 1 = omega (arith, ap length scripts) in subst (λ n. AreDone a n all) (sym first) done;
  back =
      let none : HasBack a (length all) [] [] p = record {
        now = let count : length all ≡ length all + 2 * 0 = omega arith in is ∙ (λ k. record (root_of a (length all)) { seen = ap (λ (r : PassState). r.seen) (sym is) k; aside = count k; ended = ap (λ (r : PassState). r.ended) (sym is) k });
        kept = kept;
        back = subst (AreBack a.shape p.seen 1 [] []) (ap (λ (r : PassState). r.ended) (sym is)) tt;
      } in
      subst (λ (l : List (List Piece)). HasBack a (length all) (map script_lines l) [] p) (sym scripts) none;
})
