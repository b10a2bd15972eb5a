use Rattle.std.proofs.Common.{arith}
use Rattle.whole_run.proofs.Loading.{length_cells, count_is, loads_start, loads_more, loads_end}
use Rattle.whole_run.proofs.loads.load_all.Goals as goal

pub loop-object-init : goal.loop-object-init
loop-object-init g c = loads_start c.args.arena.now c.args.root.now c.args.replies c.requires.arena c.requires.rest c.requires.kept c.requires.empty (omega (arith, length_cells c.args.arena.now.shape, c.requires.room))

pub push-requires : goal.push-requires
push-requires g c =
    let count = count_is c.args.arena.now.shape c.shape.result.now c.len-count.result c.len-count.ensures c.shape.ensures.value in
    omega (arith, count, c.loop-object-test.true, c.loop-object.invariant.size, c.loop-object.invariant.room)

pub loop-object-preserved : goal.loop-object-preserved
loop-object-preserved g c =
    let count = count_is c.args.arena.now.shape c.shape.result.now c.len-count.result c.len-count.ensures c.shape.ensures.value in
    loads_more c.args.arena.now c.args.root.now c.loop-object.object c.loop-object.replies c.push.new.self c.load-reply.result c.loop-object.root c.load-reply.new.root c.loop-object.invariant
    (omega (arith, count, c.loop-object-test.true)) c.load-reply.ensures c.push.ensures.items c.push.ensures.spare

pub returns : goal.returns
returns g c =
    let count = count_is c.args.arena.now.shape c.shape.result.now c.len-count.result c.len-count.ensures c.shape.ensures.value in
    loads_end c.args.arena.now c.args.root.now c.loop-object.object c.loop-object.replies c.loop-object.root c.loop-object.invariant (omega (arith, count, c.loop-object-test.false))
