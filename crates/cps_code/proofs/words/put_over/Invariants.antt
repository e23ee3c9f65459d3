use Rattle.std.proofs.Common.{◌≡◌}
use Rattle.cps_code.specs.Image.{piece_of}
use Rattle.cps_code.specs.Code.Slots.{AreWords}
use Rattle.cps_code.proofs.DepositLemmas.{DepositsUpTo}
use Rattle.cps_code.proofs.words.put_over.Given as goal

abbrev pub invariant-loop-slot : goal.invariant-loop-slot
invariant-loop-slot l = record { deposits : DepositsUpTo l.fn.slots (piece_of l.piece) l.slot l.slots; words : AreWords l.slots; begins : l.first ≡ l.piece.address }
