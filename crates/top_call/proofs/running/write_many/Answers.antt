use Rattle.top_call.proofs.ManyRuns.{last_values}
use Rattle.top_call.proofs.running.write_many.Goals as goal

pub many_text-requires : goal.many_text-requires
many_text-requires g c = record { last = last_values c.args.ran.now.ended _ c.target-target.ensures.kept c.requires.run c.requires.last }
