use Rattle.std.proofs.Common.{rules, ◌+◌, ◌*◌, ℕ, ap}
use Rattle.place_core.proofs.PartSums.{on_top, within_all}
use Rattle.place_core.proofs.parts.with_part.Goals as goal

pub overflow_add-result : goal.overflow_add-result
overflow_add-result c =
    let both = on_top c.args.bits (c.args.bits * c.args.part) c.args.low c.args.number c.requires.ends c.requires.low c.requires.number in
    let kept = both.0 in let sum = both.1 in
    let top = within_all (c.args.bits * c.args.part + c.args.bits) c.requires.ends in
    rw kept (search (rules, sum, top))

pub returns-clause-value : goal.returns-clause-value
returns-clause-value c =
    ap (λ (z : ℕ). c.args.low + z) (on_top c.args.bits (c.args.bits * c.args.part) c.args.low c.args.number c.requires.ends c.requires.low c.requires.number).0

pub returns-clause-fits : goal.returns-clause-fits
returns-clause-fits c =
    let both = on_top c.args.bits (c.args.bits * c.args.part) c.args.low c.args.number c.requires.ends c.requires.low c.requires.number in
    rw both.0 both.1
