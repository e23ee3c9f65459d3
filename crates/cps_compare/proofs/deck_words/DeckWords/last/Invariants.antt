use Rattle.std.proofs.Common.{◌≡◌, ℕ, ◌≤◌, List, None}
use Rattle.cps_code.specs.Image.{Piece, ArePacked}
use Rattle.cps_compare.specs.Differences.{word_of}
use Rattle.cps_compare.proofs.deck_words.DeckWords.last.Given as goal

abbrev pub invariant-loop-address : goal.invariant-loop-address
invariant-loop-address l = (pieces : List Piece) → ArePacked pieces l.self.words → (other : ℕ) → l.address ≤ other → word_of l.machine pieces other ≡ None
