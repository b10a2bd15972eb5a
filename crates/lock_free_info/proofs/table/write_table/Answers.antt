use Rattle.work_lang.proofs.Pieces.{writes_then}
use Rattle.lock_free_info.proofs.TableSteps.{table_made}
use Rattle.lock_free_info.proofs.table.write_table.Goals as goal

pub returns : goal.returns
returns g c = writes_then (table_made c.args.target.now c.args.shape.now c.args.objects.now c.requires.shape) c.in-Ok.is c.write_target.ensures c.write_objects.ensures
