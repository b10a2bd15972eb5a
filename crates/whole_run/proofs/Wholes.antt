-- The parts of a whole run, put together.
use Rattle.std.proofs.Common.{◌≡◌, ℕ, List, length, map, ap, sym, ◌∙◌, subst}
use Rattle.std.proofs.lemmas.List.{length-map}
use Rattle.place_core.specs.declared.script.Piece.{Piece}
use Rattle.place_core.specs.declared.shape.Shape.{Shape}
use Rattle.place_core.specs.Pieces.{script_lines}
use Rattle.place_core.specs.RepliesState.{RepliesState}
use Rattle.place_core.specs.Runs.{replies_by, replies_from, loads_from}
use Rattle.place_core.specs.Shapes.{cells_of_shape}
use Rattle.seat_views.specs.States.{ArenaState, PassState, Opens}
use Rattle.seat_views.specs.Makes.{MakesCalls}
use Rattle.runner.specs.declared.worker.Worker.{Worker}
use Rattle.whole_run.specs.Stages.{told_by, HasBack, HaveKept, HaveNone}
use Rattle.whole_run.specs.WholeRuns.{RanWhole, no_replies}
use Rattle.whole_run.proofs.RunFacts.{ran_whole, thread_replies, last_replies}

pub count_of : (given : List (List Piece)) (ws : List Worker) → map (λ (w : Worker). w.script) ws ≡ given → length ws ≡ length given
count_of given ws named = sym (length-map ws (λ (w : Worker). w.script)) ∙ ap length named

module _ (S : Shape) (a : ArenaState) (first : PassState) (given : List (List Piece)) (ws : List Worker) (scripts : List (List Piece)) (p q : PassState) (loaded : RepliesState)
    (opens : Opens S 0 a first) (named : map (λ (w : Worker). w.script) ws ≡ given) (kept : scripts ≡ map (λ (w : Worker). w.script) ws)
    (back : HasBack a (length ws) (map script_lines scripts) (map told_by ws) p) (loads : MakesCalls a.shape (loads_from 0 (cells_of_shape a.shape)) p loaded.items q) where
  pub scripts_are : scripts ≡ given
  scripts_are = kept ∙ named

  count : length ws ≡ length (map script_lines given)
  count = count_of given ws named ∙ sym (length-map given script_lines)

  all_back : HasBack a (length (map script_lines given)) (map script_lines given) (map told_by ws) p
  all_back = subst (λ (x : ℕ × List (List Piece)). HasBack a x.0 (map script_lines x.1) (map told_by ws) p) (λ k. (count k, scripts_are k)) back

  all_loads : MakesCalls S (loads_from 0 (cells_of_shape S)) p loaded.items q
  all_loads = subst (λ (Z : Shape). MakesCalls Z (loads_from 0 (cells_of_shape Z)) p loaded.items q) opens.shape loads

  pub run_of : RanWhole S (map script_lines given) a q
  run_of = ran_whole S a (map script_lines given) (map told_by ws) p q loaded.items opens.shape opens.first_stamp all_back all_loads

  told_of : map told_by ws ≡ replies_from q.seen 1 (map script_lines given)
  told_of = thread_replies S a (map script_lines given) (map told_by ws) p q loaded.items opens.shape opens.first_stamp all_back all_loads

  pub replies_of : (replies : List RepliesState) → replies ≡ map (λ (w : Worker). w.replies) ws → HaveKept ws → map (λ (k : RepliesState). k.items) replies ≡ replies_from q.seen 1 (map script_lines given)
  replies_of replies are kept = ap (map (λ (k : RepliesState). k.items)) are ∙ (kept ∙ told_of)

  pub nothing_of : (replies : List RepliesState) → replies ≡ map (λ (w : Worker). w.replies) ws → HaveNone ws → map (λ (k : RepliesState). k.items) replies ≡ no_replies given
  nothing_of replies are none = ap (map (λ (k : RepliesState). k.items)) are ∙ (none ∙ ap no_replies named)

  pub last_of : loaded.items ≡ replies_by q.seen 0
  last_of = last_replies S a (map script_lines given) (map told_by ws) p q loaded.items opens.shape opens.first_stamp all_back all_loads
