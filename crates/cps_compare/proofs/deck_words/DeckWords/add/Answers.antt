use Rattle.std.proofs.Common.{◌++◌, List, take, subst}
use Rattle.std.specs.Prelude.{map}
use Rattle.cps_code.specs.Image.{piece_of}
use Rattle.cps_compare.specs.Makers.{Signed, signed_by}
use Rattle.cps_compare.specs.Code.Deck.{IsDeck}
use Rattle.cps_compare.proofs.DeckLemmas.{signed-push, deck-push}
use Rattle.cps_compare.proofs.deck_words.DeckWords.add.Goals as goal

pub loop-piece-preserved : goal.loop-piece-preserved
loop-piece-preserved c = λ all is.
    let maker = c.args.maker in
    let pieces = c.args.pieces.now in
    let i = c.loop-piece.piece-index in
    let piece = c.piece-item.result in
    let before = all ++ map (signed_by maker) (map piece_of (take i pieces)) in
    let was = c.loop-piece.invariant all is in
    subst (λ (l : List Signed). IsDeck l c.deposit.new.self c.mark.new.self) (signed-push maker all pieces i piece c.loop-piece-test.true c.piece-item.is)
    (deck-push before (signed_by maker (piece_of piece)) c.deposit.new.self c.mark.new.self
    (c.in_ok-deposit.ensures.packed (map (λ (s : Signed). s.piece) before) was.packed)
    (c.in_ok-mark.ensures before was.made))
