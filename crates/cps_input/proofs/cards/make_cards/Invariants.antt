use Rattle.std.proofs.Common.{◌≡◌, map, take}
use Rattle.cps_input.specs.Card.{card_of}
use Rattle.cps_input.proofs.cards.make_cards.Given as goal

abbrev pub invariant-loop-line : goal.invariant-loop-line
invariant-loop-line l = l.cards.items ≡ map (λ line. card_of line.now) (take l.line-index l.line-items)
