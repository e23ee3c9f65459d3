use Rattle.std.proofs.Common.{◌≡◌, List}
use Rattle.std.specs.Prelude.{filter}
use Rattle.cps_code.specs.Image.{Piece, ArePacked}
use Rattle.cps_claims.specs.Claims.{Claimed}
use Rattle.cps_claims.specs.Code.Held.{Holds}
use Rattle.cps_compare.specs.Differences.{digits_in}
use Rattle.cps_disassembly.specs.Makes.{is_wrong}
use Rattle.cps_disassembly.specs.Certificate.{addresses_below}
use Rattle.cps_disassembly.proofs.certificate.wrong_in.Given as goal

abbrev pub invariant-loop-address : goal.invariant-loop-address
invariant-loop-address l =
    (given : List Claimed) (pieces : List Piece) → Holds l.claims given → ArePacked pieces l.deck.words
    → l.words.items ≡ filter (is_wrong l.selection given (digits_in l.selection.machine pieces)) (addresses_below l.address)
