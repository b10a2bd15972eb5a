-- What is reached by steps are the states of beginnings of runs.
use Rattle.std.proofs.Common.{ℕ, ◌*◌, List, length, map, sym, subst}
use Rattle.std.specs.Ordering.{nat_cmp}
use Rattle.std.specs.Cmp.Lexicographic.{slice_cmp}
use Rattle.place_core.specs.declared.script.Line.{Line}
use Rattle.place_core.specs.declared.shape.Shape.{Shape}
use Rattle.place_core.specs.Pieces.{script_lines}
use Rattle.outcomes.specs.Reached.{HasReached, ReachesMore}
use Rattle.run_steps.specs.Steps.{step_of}
use Rattle.run_steps.specs.Machines.{IsAt}
use Rattle.run_steps.proofs.MachineFacts.{IsAt-none}
use Rattle.run_machine.specs.States.{HasEveryState}
use Rattle.run_machine.proofs.Found.{HasEveryState-found, IfOk-weaken}
use Rattle.run_machine.proofs.search.every_state.Goals as goal

pub reach-requires : goal.reach-requires
reach-requires c =
    let S : Shape = c.args.machine.now.shape.now in
    let lines : List (List Line) = map script_lines c.args.machine.now.scripts.now in
    subst (λ (s : List ℕ). IsAt S lines c.args.machine.now.kept s) (sym c.in-Ok.ensures) (IsAt-none S lines c.args.machine.now.kept c.requires.valid c.requires.fits)

pub returns-in-Ok-clause-ok : goal.returns-in-Ok-clause-ok
returns-in-Ok-clause-ok c =
    let S : Shape = c.args.machine.now.shape.now in
    IfOk-weaken (HasReached (slice_cmp nat_cmp) (2 * length c.args.machine.now.scripts.now) (step_of S (map script_lines c.args.machine.now.scripts.now) c.args.machine.now.kept) c.in-Ok.start c.args.limit)
    (HasEveryState S (map script_lines c.args.machine.now.scripts.now) c.args.machine.now.kept c.args.limit)
    c.reach.result
    (HasEveryState-found S c.args.machine.now.scripts.now c.args.machine.now.kept c.args.limit c.in-Ok.start c.requires.fits c.in-Ok.ensures)
    c.reach.ensures.ok

pub returns-in-Ok-clause-many : goal.returns-in-Ok-clause-many
returns-in-Ok-clause-many c =
    let S : Shape = c.args.machine.now.shape.now in
    λ many. subst (λ (s : List ℕ). ReachesMore (slice_cmp nat_cmp) (2 * length c.args.machine.now.scripts.now) (step_of S (map script_lines c.args.machine.now.scripts.now) c.args.machine.now.kept) s c.args.limit)
    c.in-Ok.ensures (c.reach.ensures.many many)
