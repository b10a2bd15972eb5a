use Rattle.std.proofs.Common.{◌≤◌, arith, length, map}
use Rattle.work_lang.proofs.Pieces.{wrote_more, wrote_stops, wrote_all}
use Rattle.report_text.specs.Many.{value_replied}
use Rattle.report_text.proofs.Walks.{all_at, get_at, pairs_at, pairs_length}
use Rattle.report_text.proofs.LineSteps.{last_lines_at, last_lines_end}
use Rattle.report_text.proofs.ManyLines.{told_at, value_fits}
use Rattle.report_text.proofs.many.write_values.Goals as goal

pub bounds-objects-i : goal.bounds-objects-i
bounds-objects-i g c = omega (arith, pairs_length _ c.args.objects.now c.args.last.now.items c.requires.values)

pub write_last_value-requires-clause-sound : goal.write_last_value-requires-clause-sound
write_last_value-requires-clause-sound g c =
    let there = get_at c.args.objects.now c.objects.i c.index-objects-i.result (omega (arith, pairs_length _ c.args.objects.now c.args.last.now.items c.requires.values)) c.index-objects-i.is in
    all_at _ c.args.objects.now c.objects.i c.index-objects-i.result c.requires.sound there

pub write_last_value-requires-clause-fits : goal.write_last_value-requires-clause-fits
write_last_value-requires-clause-fits g c =
    let there = get_at c.args.objects.now c.objects.i c.index-objects-i.result (omega (arith, pairs_length _ c.args.objects.now c.args.last.now.items c.requires.values)) c.index-objects-i.is in
    value_fits c.index-objects-i.result.kind c.at-reply.result.now (pairs_at _ c.args.objects.now c.args.last.now.items c.objects.i c.index-objects-i.result c.at-reply.result.now c.requires.values there c.at-reply.ensures)

pub returns-in-Err : goal.returns-in-Err
returns-in-Err g c =
    let there = get_at c.args.objects.now c.objects.i c.index-objects-i.result (omega (arith, pairs_length _ c.args.objects.now c.args.last.now.items c.requires.values)) c.index-objects-i.is in
    let step = last_lines_at c.args.objects.now c.args.last.now.items (map value_replied c.args.last.now.items) c.objects.i
    c.index-objects-i.result c.at-reply.result.now c.value_replied.result there c.at-reply.ensures (told_at c.args.last.now.items c.objects.i c.at-reply.result.now c.value_replied.result c.at-reply.ensures c.value_replied.ensures) in
    wrote_stops _ step c.in-Err.is c.objects.invariant.wrote c.write_last_value.ensures

pub objects-preserved : goal.objects-preserved
objects-preserved g c =
    let there = get_at c.args.objects.now c.objects.i c.index-objects-i.result (omega (arith, pairs_length _ c.args.objects.now c.args.last.now.items c.requires.values)) c.index-objects-i.is in
    let step = last_lines_at c.args.objects.now c.args.last.now.items (map value_replied c.args.last.now.items) c.objects.i
    c.index-objects-i.result c.at-reply.result.now c.value_replied.result there c.at-reply.ensures (told_at c.args.last.now.items c.objects.i c.at-reply.result.now c.value_replied.result c.at-reply.ensures c.value_replied.ensures) in
    record {
      within = omega arith;
      wrote = wrote_more step c.in-Ok.is c.objects.invariant.wrote c.write_last_value.ensures;
    }

pub returns : goal.returns
returns g c =
    let past : length c.args.objects.now ≤ c.objects.i = omega (arith, pairs_length _ c.args.objects.now c.args.last.now.items c.requires.values) in
    wrote_all _ (last_lines_end c.args.objects.now c.args.last.now.items (map value_replied c.args.last.now.items) c.objects.i past) c.objects.invariant.wrote
