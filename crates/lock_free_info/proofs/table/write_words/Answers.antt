use Rattle.std.proofs.Common.{arith, ap, ◌∙◌}
use Rattle.work_lang.proofs.Pieces.{wrote_more, wrote_stops}
use Rattle.work_lang.proofs.Firsts.{AllByRecursion-others}
use Rattle.lock_free_info.specs.Classes.{class_of}
use Rattle.lock_free_info.proofs.TableSteps.{class_known, words_step}
use Rattle.lock_free_info.proofs.table.write_words.Goals as goal

-- the class of the word that is written
pub returns-in-Err : goal.returns-in-Err
returns-in-Err g c =
    let known = class_known c.args.shape.now c.args.number c.at-object.result _ c.is_sole_at-sole.result c.path_with-path.result c.class_by.result c.at-object.ensures c.is_sole_at-sole.ensures c.path_with-path.ensures c.class_by.ensures in
    let step = words_step c.args.shape.now c.args.number c.args.declared.now c.words.rest.now _ c.class_by.result (omega arith) (known ∙ ap (class_of c.args.shape.now c.args.number) c.zero_call.ensures) in
    wrote_stops _ step c.in-Err.is c.words.invariant.wrote c.write_word.ensures

pub words-preserved : goal.words-preserved
words-preserved g c =
    let known = class_known c.args.shape.now c.args.number c.at-object.result _ c.is_sole_at-sole.result c.path_with-path.result c.class_by.result c.at-object.ensures c.is_sole_at-sole.ensures c.path_with-path.ensures c.class_by.ensures in
    let step = words_step c.args.shape.now c.args.number c.args.declared.now c.words.rest.now _ c.class_by.result (omega arith) (known ∙ ap (class_of c.args.shape.now c.args.number) c.zero_call.ensures) in
    record {
      calls = AllByRecursion-others _ c.words.rest.now c.words.invariant.calls;
      wrote = wrote_more step c.in-Ok.is c.words.invariant.wrote c.write_word.ensures;
    }
