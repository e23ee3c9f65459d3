use Rattle.std.proofs.Common.{◌≡◌, map}
use Rattle.std.specs.Prelude.{slice_range}
use Rattle.cps_rpc.specs.Lines.{source_lines}
use Rattle.cps_input.specs.Card.{card_of}
use Rattle.cps_server.proofs.cards.cards_from.Given as goal

abbrev pub invariant-loop-at : goal.invariant-loop-at
invariant-loop-at l = l.cards.items ≡ map card_of (slice_range (source_lines l.buffer) l.first l.at)
