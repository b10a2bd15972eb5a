use Rattle.std.proofs.Common.{rules}
use Rattle.sized_calls.proofs.Opening.{opened}
use Rattle.sized_calls.proofs.region.Region.open.Goals as goal

pub returns-clause-opens : goal.returns-clause-opens
returns-clause-opens c = opened c.args.target.now c.args.cells.now c.in_ok-kept.kept.items c.in_ok-shape.shape c.in_ok-arena.arena c.in_ok-arena.root (search rules) (search rules) (search rules) (search rules) (search rules)
