use Rattle.std.proofs.Common.{◌≡◌, ◌++◌, map, flat_map}
use Rattle.std.specs.List.{range_with_len}
use Rattle.cps_code.specs.Image.{piece_of}
use Rattle.cps_final.specs.Pieces.{placed, piece_in}
use Rattle.cps_final.proofs.pieces.push_run.Given as goal

abbrev pub invariant-loop-later : goal.invariant-loop-later
invariant-loop-later l = map piece_of l.pieces.items
    ≡ map piece_of l.fn.pieces.items ++ flat_map (placed l.run.machine l.base) (map (piece_in l.run.machine l.run.at l.run.width l.run.number) (range_with_len 0 l.later))
