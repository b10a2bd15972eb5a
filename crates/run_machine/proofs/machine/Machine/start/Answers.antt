-- One more number is that of the next place; all of them are the state before the first call.
use Rattle.std.proofs.Common.{ℕ, List, length, arith, map, sym, ◌∙◌, ap, ◌++◌, ◌∷◌, []}
use Rattle.std.specs.List.{range_with_len}
use Rattle.std.proofs.lemmas.List.FromFn.{map-range_with_len_more}
use Rattle.place_core.specs.Pieces.{script_lines}
use Rattle.place_core.specs.declared.script.Line.{Line}
use Rattle.place_core.specs.declared.shape.Shape.{Shape}
use Rattle.run_steps.specs.Standing.{first_cell, cell_count}
use Rattle.run_steps.proofs.Lists.{length-map'}
use Rattle.run_steps.proofs.MachineFacts.{state_of-none}
use Rattle.run_machine.proofs.machine.Machine.start.Goals as goal

pub loop-i-preserved : goal.loop-i-preserved
loop-i-preserved c =
    let f : ℕ → ℕ = first_cell c.args.self.now.shape.now (length c.args.self.now.scripts.now) in
    c.in_ok-push.ensures
    ∙ ap (λ (l : List ℕ). l ++ c.first_cell.result ∷ []) c.loop-i.invariant
    ∙ ap (λ (v : ℕ). map f (range_with_len 0 c.loop-i.i) ++ v ∷ []) c.first_cell.ensures
    ∙ sym (map-range_with_len_more f 0 c.loop-i.i c.loop-i.i (omega arith))

pub returns : goal.returns
returns c =
    let S : Shape = c.args.self.now.shape.now in
    let lines : List (List Line) = map script_lines c.args.self.now.scripts.now in
    c.loop-i.invariant
    ∙ ap (λ (k : ℕ). map (first_cell S (length c.args.self.now.scripts.now)) (range_with_len 0 k)) (omega arith)
    ∙ ap (λ (n : ℕ). map (first_cell S n) (range_with_len 0 (cell_count S lines c.args.self.now.kept))) (sym (length-map' script_lines c.args.self.now.scripts.now))
    ∙ state_of-none S lines c.args.self.now.kept
