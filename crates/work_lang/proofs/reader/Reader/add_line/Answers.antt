use Rattle.std.proofs.Common.{◌≡◌, Option, Some, None, subst}
use Rattle.work_lang.specs.declared.item.OpenBlock.{OpenBlock}
use Rattle.work_lang.specs.Kept.{AreCounts}
use Rattle.work_lang.proofs.Counters.{counts_with}
use Rattle.work_lang.proofs.reader.Reader.add_line.Goals.{in-Some+in_ok-push-in-Some, in-None+in_ok-push-in-None}
use Rattle.work_lang.proofs.reader.Reader.add_line.Goals as goal

-- a line in a block makes as many calls as the block is made times
pub invariant_of-self-2 : goal.invariant_of-self-2
invariant_of-self-2 c =
    let counts : (b : Option OpenBlock) → c.self.inside.block ≡ b → AreCounts c.self.inside.in_thread c.self.inside.in_all c.self.inside.threads.items c.self.inside.script b
    = λ b is. subst (AreCounts c.self.inside.in_thread c.self.inside.in_all c.self.inside.threads.items c.self.inside.script) is c.self.invariant in
    elim c.match-self.branch [
      | in-Some+in_ok-push-in-Some w ↦
          rw (w.self-inside-is, w.times-is, w.in_ok-push-in-Some.ensures.ok) (counts_with c.self.inside.script c.args.line (Some w.in-Some.block) c.self.inside.threads.items c.self.inside.in_thread c.self.inside.in_all (counts (Some w.in-Some.block) w.in-Some.is))
      | in-None+in_ok-push-in-None w ↦
          rw (w.self-inside-is, w.times-is, w.in_ok-push-in-None.ensures.ok, w.in-None.is) (counts_with c.self.inside.script c.args.line None c.self.inside.threads.items c.self.inside.in_thread c.self.inside.in_all (counts None w.in-None.is))
    ]
