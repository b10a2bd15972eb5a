use Rattle.std.proofs.Common.{arith}
use Rattle.work_lang.proofs.Lists.{all_at}
use Rattle.work_lang.proofs.Pieces.{wrote_more, wrote_stops, wrote_all}
use Rattle.work_lang.proofs.CanonicalSteps.{piece_at, pieces_end}
use Rattle.work_lang.proofs.canonical.write_pieces.Goals as goal

pub write_piece-requires-clause-stands : goal.write_piece-requires-clause-stands
write_piece-requires-clause-stands g c = all_at _ c.args.script.now c.pieces.k c.piece.result.now c.requires.stands c.piece.ensures

pub returns-in-Err : goal.returns-in-Err
returns-in-Err g c = wrote_stops _ (piece_at c.args.objects.now c.args.script.now c.pieces.k c.piece.result.now c.piece.ensures) c.in-Err.is c.pieces.invariant.wrote c.write_piece.ensures

pub pieces-preserved : goal.pieces-preserved
pieces-preserved g c = record {
  within = omega arith;
  wrote = wrote_more (piece_at c.args.objects.now c.args.script.now c.pieces.k c.piece.result.now c.piece.ensures) c.in-Ok.is c.pieces.invariant.wrote c.write_piece.ensures;
}

pub returns : goal.returns
returns g c = wrote_all _ (pieces_end c.args.objects.now c.args.script.now c.pieces.k (omega arith)) c.pieces.invariant.wrote
