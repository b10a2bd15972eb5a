use Rattle.std.proofs.Common.{sym, subst}
use Rattle.work_lang.specs.Kept.{IsKept}
use Rattle.work_lang.proofs.Counters.{block_fits}
use Rattle.work_lang.proofs.reader.Reader.close.Goals as goal

pub push_block-requires-clause-lines : goal.push_block-requires-clause-lines
push_block-requires-clause-lines c = block_fits _ c.in-Some.field-0 (sym c.in-Some.ensures.value) (subst IsKept (sym c.self.view_is) c.requires.kept)
