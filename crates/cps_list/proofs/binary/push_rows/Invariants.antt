use Rattle.std.proofs.Common.{◌≡◌, ◌++◌, List}
use Rattle.cps_code.specs.Image.{Piece, ArePacked}
use Rattle.cps_list.specs.Binary.{rows_below}
use Rattle.cps_list.proofs.binary.push_rows.Given as goal

abbrev pub invariant-loop-address : goal.invariant-loop-address
invariant-loop-address l = (pieces : List Piece) → ArePacked pieces l.words → l.text.items ≡ l.fn.text.items ++ rows_below l.address l.machine pieces
