-- What is reached by agreeing steps are the states of agreeing beginnings of runs.
use Rattle.std.proofs.Common.{◌*◌, length, map}
use Rattle.std.specs.Ordering.{nat_cmp}
use Rattle.std.specs.Cmp.Lexicographic.{slice_cmp}
use Rattle.place_core.specs.Pieces.{script_lines}
use Rattle.outcomes.specs.Reached.{HasReached}
use Rattle.run_judge.specs.Reports.{items_of}
use Rattle.run_judge.specs.Agreeing.{agreeing_step}
use Rattle.run_judge.specs.Judging.{HasEveryAgreeing}
use Rattle.run_judge.proofs.Judged.{found_moved, IfOk-weaken, at_start, start_moved, more_moved}
use Rattle.run_judge.proofs.judging.agreeing_states.Goals as goal

pub reach-requires : goal.reach-requires
reach-requires c = at_start c.new-machine.result.machine.shape.now c.args.shape.now c.new-machine.result.machine.scripts.now c.args.scripts.now c.new-machine.result.machine.kept c.in-Ok.start
    c.new-machine.ensures.shape c.new-machine.ensures.scripts c.requires.valid c.requires.fits c.in-Ok.ensures

pub returns-in-Ok-clause-ok : goal.returns-in-Ok-clause-ok
returns-in-Ok-clause-ok c = IfOk-weaken
    (HasReached (slice_cmp nat_cmp) (2 * length c.new-machine.result.machine.scripts.now)
    (agreeing_step c.new-machine.result.machine.shape.now (map script_lines c.new-machine.result.machine.scripts.now) c.new-machine.result.machine.kept (items_of c.new-machine.result.replies.now)) c.in-Ok.start c.args.limit)
    (HasEveryAgreeing c.args.shape.now (map script_lines c.args.scripts.now) 0 (items_of c.args.replies.now))
    c.reach.result
    (λ found. found_moved c.new-machine.result.machine.shape.now c.args.shape.now c.new-machine.result.machine.scripts.now c.args.scripts.now c.new-machine.result.machine.kept c.new-machine.result.replies.now c.args.replies.now c.in-Ok.start c.args.limit found
    c.new-machine.ensures.shape c.new-machine.ensures.scripts c.new-machine.ensures.kept c.new-machine.ensures.replies c.requires.fits
    (start_moved c.new-machine.result.machine.shape.now c.args.shape.now c.new-machine.result.machine.scripts.now c.args.scripts.now c.new-machine.result.machine.kept c.in-Ok.start c.new-machine.ensures.shape c.new-machine.ensures.scripts c.new-machine.ensures.kept c.in-Ok.ensures))
    c.reach.ensures.ok

pub returns-in-Ok-clause-many : goal.returns-in-Ok-clause-many
returns-in-Ok-clause-many c = λ many. more_moved c.new-machine.result.machine.shape.now c.args.shape.now c.new-machine.result.machine.scripts.now c.args.scripts.now c.new-machine.result.machine.kept c.new-machine.result.replies.now c.args.replies.now c.in-Ok.start c.args.limit
    c.new-machine.ensures.shape c.new-machine.ensures.scripts c.new-machine.ensures.kept c.new-machine.ensures.replies
    (start_moved c.new-machine.result.machine.shape.now c.args.shape.now c.new-machine.result.machine.scripts.now c.args.scripts.now c.new-machine.result.machine.kept c.in-Ok.start c.new-machine.ensures.shape c.new-machine.ensures.scripts c.new-machine.ensures.kept c.in-Ok.ensures)
    (c.reach.ensures.many many)
