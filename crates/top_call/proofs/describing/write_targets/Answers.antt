use Rattle.std.proofs.Common.{sym, subst, ap, map}
use Rattle.std.specs.List.{AllByRecursion}
use Rattle.work_lang.proofs.Pieces.{writes_same}
use Rattle.top_call.specs.Texts.{IsRow, target_row, targets_lines}
use Rattle.top_call.proofs.TargetRows.{all_named}
use Rattle.top_call.proofs.describing.write_targets.Goals as goal

pub write_rows-requires : goal.write_rows-requires
write_rows-requires g c = subst (AllByRecursion IsRow) (sym c.builtins.ensures) all_named

pub returns : goal.returns
unfolding targets_lines
returns g c = writes_same (ap (map target_row) (sym c.builtins.ensures)) c.write_rows.ensures
