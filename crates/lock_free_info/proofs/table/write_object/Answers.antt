use Rattle.work_lang.proofs.Pieces.{writes_fail, writes_then}
use Rattle.lock_free_info.proofs.TableSteps.{object_step}
use Rattle.lock_free_info.proofs.table.write_object.Goals as goal

pub returns-in-Err : goal.returns-in-Err
returns-in-Err g c =
    writes_fail _ (object_step c.args.target.now c.args.shape.now c.args.number c.args.declared.now c.args.address c.at-place.result c.requires.laid c.at-place.ensures) c.in-Err.is c.write_place.ensures

pub returns : goal.returns
returns g c =
    writes_then (object_step c.args.target.now c.args.shape.now c.args.number c.args.declared.now c.args.address c.at-place.result c.requires.laid c.at-place.ensures)
    c.in-Ok.is c.write_place.ensures c.write_words.ensures
