use Rattle.std.proofs.Common.{ap, subst, ◌∙◌}
use Rattle.work_lang.specs.Reading.{State}
use Rattle.work_lang.specs.Kept.{Allowed}
use Rattle.work_lang.proofs.Counters.{counts_open}
use Rattle.work_lang.proofs.reader.Reader.add.Goals as goal

-- an empty block is no line and no call
pub invariant_of-self-in-Repeat-2 : goal.invariant_of-self-in-Repeat-2
invariant_of-self-in-Repeat-2 c =
    let closed = (subst (Allowed c.args.self.now) c.in-Repeat.is c.requires.allowed).2 in
    counts_open c.self-in-Repeat.inside.script c.in-Repeat.times c.new-lines.result c.self-in-Repeat.inside.block c.self-in-Repeat.inside.threads.items c.self-in-Repeat.inside.in_thread c.self-in-Repeat.inside.in_all
    (ap (λ (s : State). s.block) c.self-in-Repeat.view_is ∙ closed) c.new-lines.ensures c.self-in-Repeat.invariant
