use Rattle.std.proofs.Common.{take}
use Rattle.std.specs.Prelude.{map}
use Rattle.cps_code.specs.Image.{piece_of}
use Rattle.cps_list.specs.Code.Making.{Adds}
use Rattle.cps_list.proofs.binary.put_pieces.Given as goal

abbrev pub invariant-loop-piece : goal.invariant-loop-piece
invariant-loop-piece l = Adds (map piece_of (take l.piece-index l.pieces)) l.fn.words l.words
