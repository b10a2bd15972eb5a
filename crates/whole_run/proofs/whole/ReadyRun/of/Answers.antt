use Rattle.std.proofs.Common.{◌≡◌, ℕ, length, refl, sym, ap, ◌∙◌, subst, arith}
use Rattle.place_core.specs.declared.shape.Shape.{Shape}
use Rattle.whole_run.specs.Stages.{HasRoom}
use Rattle.whole_run.proofs.Wholes.{count_of}
use Rattle.whole_run.proofs.whole.ReadyRun.of.Goals as goal

-- each script has a worker, so that there is room for as many
pub returns-clause-ready : goal.returns-clause-ready
returns-clause-ready c =
    let opens = c.in_ok-arena.ensures in
    let many : length c.in_ok-workers.workers.items ≡ length c.args.scripts.items = count_of c.args.scripts.items c.in_ok-workers.workers.items c.in_ok-workers.ensures.scripts in
    record {
      first = c.in_ok-arena.root;
      opens = record { shape = refl; first_stamp = opens.first_stamp; root = opens.root; kept = opens.kept };
      manned = c.in_ok-workers.ensures.manned;
      no_scripts = c.in_ok-taken.ensures.scripts;
      no_replies = c.in_ok-taken.ensures.replies;
      room = subst (λ (n : ℕ). HasRoom c.in_ok-taken.taken n) (omega arith) c.in_ok-taken.ensures.room;
      no_loads = c.in_ok-last.ensures.0;
      room_for_loads = omega (arith, ap (λ (S : Shape). length S.objects) c.shape.ensures.value, c.in_ok-last.ensures.1);
    }
