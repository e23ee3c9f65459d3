use Rattle.std.proofs.Common.{take}
use Rattle.cps_compare.specs.Makers.{signed_from}
use Rattle.cps_compare.specs.Code.Deck.{IsDeck}
use Rattle.cps_compare.proofs.deck_words.DeckWords.of.Given as goal

abbrev pub invariant-loop-before : goal.invariant-loop-before
invariant-loop-before g l = IsDeck (signed_from 1 (take l.before (g.V.View.assembly l.view).outcomes)) l.deck.words l.deck.makers
