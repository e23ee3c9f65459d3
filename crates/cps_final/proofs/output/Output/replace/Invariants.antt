use Rattle.std.proofs.Common.{◌≡◌, take, map, flat_map}
use Rattle.cps_code.specs.Image.{piece_of}
use Rattle.cps_final.specs.Pieces.{pieces_of}
use Rattle.cps_final.specs.Rows.{rows_of}
use Rattle.cps_final.specs.Resolving.{resolved}
use Rattle.cps_final.proofs.output.Output.replace.Given as goal

abbrev pub invariant-loop-item : goal.invariant-loop-item
invariant-loop-item l = record {
  rows : l.self-inside.rows.items ≡ flat_map (rows_of (resolved l.finals)) (take l.item-index l.items);
  pieces : map piece_of l.self-inside.pieces.items ≡ flat_map (pieces_of (resolved l.finals)) (take l.item-index l.items);
}
