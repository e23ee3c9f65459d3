use Rattle.std.proofs.Common.{map}
use Rattle.cps_code.specs.Image.{piece_of}
use Rattle.cps_final.specs.Pieces.{placed, piece_in}
use Rattle.cps_final.proofs.PieceLemmas.{word-next}
use Rattle.cps_final.proofs.pieces.push_run.Goals as goal

pub loop-later-preserved : goal.loop-later-preserved
loop-later-preserved c =
    let run = c.args.run in
    word-next (piece_in run.machine run.at run.width run.number) (placed run.machine c.args.base) (map piece_of c.args.pieces.now.items) (map piece_of c.loop-later.pieces.items)
    (map piece_of c.push_placed.new.pieces.items) c.loop-later.later (piece_of c.piece_in.result) c.loop-later.invariant c.piece_in.ensures c.in_ok-push_placed.ensures
