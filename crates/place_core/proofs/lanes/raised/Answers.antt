use Rattle.std.proofs.Common.{◌+◌, ◌≤◌, arith}
use Rattle.std.proofs.lemmas.Nat.{shl_whole}
use Rattle.place_core.proofs.lanes.raised.Goals as goal

pub returns : goal.returns
returns c = let within : c.args.shift + c.args.width ≤ 64 = c.requires.lane.1 in shl_whole c.args.value c.args.width c.args.shift 64 c.requires.fits (omega arith)
