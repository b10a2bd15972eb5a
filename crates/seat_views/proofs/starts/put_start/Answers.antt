use Rattle.std.proofs.Common.{rules, ◌≡◌, ◌<◌, ◌+◌, ◌*◌, ◌^◌, ◌≤◌, arith}
use Rattle.std.specs.Prelude.{slice_index, length}
use Rattle.seat_views.proofs.Openings.{start_lane, start_parts, start_word, starts_lane, starts_parts}
use Rattle.seat_views.proofs.starts.put_start.Goals as goal

pub raised-more-requires-clause-lane : goal.raised-more-requires-clause-lane
raised-more-requires-clause-lane c = let f = start_lane _ _ c.at-object.result _ _ _ c.requires.shape c.at-object.ensures c.in-Lane.is in (f.0, f.1)

pub raised-more-requires-clause-fits : goal.raised-more-requires-clause-fits
raised-more-requires-clause-fits c = let f = start_lane _ _ c.at-object.result _ _ _ c.requires.shape c.at-object.ensures c.in-Lane.is in f.2

pub bounds-words-at : goal.bounds-words-at
bounds-words-at c =
    let f = start_lane _ _ c.at-object.result _ _ _ c.requires.shape c.at-object.ensures c.in-Lane.is in
    let inside : c.in-Lane.word < c.args.shape.now.words = f.3 in
    let sized : length c.args.words.now ≡ 1 + c.args.shape.now.words + c.args.shape.now.locks = c.requires.so_far.sized in omega arith

pub overflow_add-words : goal.overflow_add-words
overflow_add-words c =
    let sum = start_word _ _ _ _ _ _ _ c.requires.shape c.requires.so_far c.at-object.ensures c.in-Lane.is in
    let below : slice_index c.args.words.now (1 + c.in-Lane.word) + c.at-object.result.start * 2 ^ c.in-Lane.shift < 2 ^ 64 = sum.1 in
    let made : c.raised-more.result ≡ c.at-object.result.start * 2 ^ c.in-Lane.shift = c.raised-more.ensures in
    let total : slice_index c.args.words.now (1 + c.in-Lane.word) + c.raised-more.result < 2 ^ 64 = omega arith in
    search (rules, total)

pub bounds-words-at-in-Lane : goal.bounds-words-at-in-Lane
bounds-words-at-in-Lane c =
    let f = start_lane _ _ c.at-object.result _ _ _ c.requires.shape c.at-object.ensures c.in-Lane.is in
    let inside : c.in-Lane.word < c.args.shape.now.words = f.3 in
    let sized : length c.args.words.now ≡ 1 + c.args.shape.now.words + c.args.shape.now.locks = c.requires.so_far.sized in omega arith

pub put_parts-requires-clause-words : goal.put_parts-requires-clause-words
put_parts-requires-clause-words c =
    let f = start_parts _ _ c.at-object.result _ _ _ _ c.requires.shape c.at-object.ensures c.in-Parts.is in
    let inside : c.in-Parts.first + c.in-Parts.parts ≤ c.args.shape.now.words = f.3 in
    let sized : length c.args.words.now ≡ 1 + c.args.shape.now.words + c.args.shape.now.locks = c.requires.so_far.sized in omega arith

pub put_parts-requires-clause-bits : goal.put_parts-requires-clause-bits
put_parts-requires-clause-bits c = let f = start_parts _ _ c.at-object.result _ _ _ _ c.requires.shape c.at-object.ensures c.in-Parts.is in (f.0, f.1)

pub put_parts-requires-clause-parts : goal.put_parts-requires-clause-parts
put_parts-requires-clause-parts c = let f = start_parts _ _ c.at-object.result _ _ _ _ c.requires.shape c.at-object.ensures c.in-Parts.is in f.2

pub returns-in-Lane : goal.returns-in-Lane
returns-in-Lane c = starts_lane _ _ _ _ _ _ _ _ c.requires.shape c.requires.so_far c.at-object.ensures c.in-Lane.is (λ i. slice_index c.args.words.now (1 + c.in-Lane.word) + c.raised-more.ensures i)

pub returns-in-Parts : goal.returns-in-Parts
returns-in-Parts c = starts_parts _ _ _ _ _ _ _ _ _ c.requires.shape c.requires.so_far c.at-object.ensures c.in-Parts.is c.put_parts.ensures
