use Rattle.std.specs.Prelude.{map}
use Rattle.cps_code.specs.Image.{piece_of}
use Rattle.cps_final.specs.contracts.finals.FinalsGathered.TheImpl.{gathered-value}
use Rattle.cps_list.specs.Binary.{literal_piece}
use Rattle.cps_compare.proofs.DeckLemmas.{pool-next}
use Rattle.cps_compare.proofs.deck_words.pool_pieces.Goals as goal

pub loop-word-preserved : goal.loop-word-preserved
loop-word-preserved c =
    let finals = gathered-value.it c.args.finals.now in
    pool-next (literal_piece finals) c.pool-word-items.result.now finals.pool c.loop-word.word-index (map piece_of c.loop-word.pieces.items) (map piece_of c.push_literal.new.pieces.items)
    c.pool-word-items.ensures c.loop-word-test.true c.loop-word.invariant c.in_ok-push_literal.ensures
