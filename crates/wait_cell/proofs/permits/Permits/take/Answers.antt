use Rattle.std.proofs.Common.{ℕ, subst}
use Rattle.wait_cell.specs.Takes.{WaitsOften, WaitsForOne}
use Rattle.wait_cell.specs.Takes.WaitsOften.{Never, Again}
use Rattle.wait_cell.proofs.permits.Permits.take.Goals as goal

pub loop-init : goal.loop-init
loop-init g c = (tt, tt, c.requires.ready, Never)

-- none was left, and the pass waited
pub loop-preserved : goal.loop-preserved
loop-preserved g c =
    let once : WaitsForOne c.args.arena.now.shape c.self.inside.served.object c.loop.pass c.wait.new.pass = record {
      empty = c.take_one.new.pass;
      other = c.wait.result;
      found = c.in-Err.ensures.zero;
      waited = c.wait.ensures.waits;
    } in (
      tt,
      tt,
      c.wait.ensures.ready,
      Again _ _ c.loop.invariant.3 (subst (λ (o : ℕ). WaitsForOne c.args.arena.now.shape o c.loop.pass c.wait.new.pass) c.self.view_is once),
    )
