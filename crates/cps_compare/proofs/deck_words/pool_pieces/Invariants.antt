use Rattle.std.proofs.Common.{◌≡◌, take, flat_map}
use Rattle.std.specs.Prelude.{map}
use Rattle.cps_code.specs.Image.{piece_of}
use Rattle.cps_final.specs.contracts.finals.FinalsGathered.TheImpl.{gathered-value}
use Rattle.cps_list.specs.Binary.{literal_piece}
use Rattle.cps_compare.proofs.deck_words.pool_pieces.Given as goal

abbrev pub invariant-loop-word : goal.invariant-loop-word
invariant-loop-word l = map piece_of l.pieces.items ≡ flat_map (literal_piece (gathered-value.it l.finals)) (take l.word-index (gathered-value.it l.finals).pool)
