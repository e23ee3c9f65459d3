use Rattle.std.proofs.Common.{◌++◌, List, take}
use Rattle.std.specs.Prelude.{map}
use Rattle.cps_code.specs.Image.{piece_of}
use Rattle.cps_compare.specs.Makers.{Signed, signed_by}
use Rattle.cps_compare.specs.Code.Deck.{IsDeck}
use Rattle.cps_compare.proofs.deck_words.DeckWords.add.Given as goal

abbrev pub invariant-loop-piece : goal.invariant-loop-piece
invariant-loop-piece l = (all : List Signed) → IsDeck all l.fn.self.words l.fn.self.makers
    → IsDeck (all ++ map (signed_by l.maker) (map piece_of (take l.piece-index l.pieces))) l.self.words l.self.makers
