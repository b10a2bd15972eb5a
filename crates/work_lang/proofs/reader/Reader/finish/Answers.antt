use Rattle.std.proofs.Common.{sym, subst}
use Rattle.work_lang.specs.Kept.{IsKept}
use Rattle.work_lang.proofs.Keeping.{work_kept}
use Rattle.work_lang.proofs.reader.Reader.finish.Goals as goal

pub of_parts-requires : goal.of_parts-requires
of_parts-requires c = rw c.into_items.ensures (work_kept _ (subst IsKept (sym c.self.view_is) c.requires))
