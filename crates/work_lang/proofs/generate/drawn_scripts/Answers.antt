use Rattle.std.proofs.Common.{arith}
use Rattle.work_lang.proofs.Drawing.{scripts_drawn, scripts_done}
use Rattle.work_lang.proofs.generate.drawn_scripts.Goals as goal

pub threads-preserved : goal.threads-preserved
threads-preserved c =
    scripts_drawn _ c.threads.scripts.items c.push.new.self.items c.in_ok-script.script c.threads.left c.args.calls c.threads.generator c.drawn_script.new.generator (omega arith)
    c.in_ok-script.ensures.script c.in_ok-script.ensures.drawn c.in-Ok.ensures.items c.threads.invariant

pub returns : goal.returns
returns c = scripts_done _ c.threads.scripts.items c.threads.left c.args.calls c.threads.generator (omega arith) c.threads.invariant
