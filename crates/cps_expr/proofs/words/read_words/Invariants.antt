use Rattle.std.proofs.Common.{ℕ, ◌≤◌, length, option_map}
use Rattle.cps_expr.specs.Code.ReadSoFar.{Continues}
use Rattle.cps_expr.specs.Row.{words_up_to, words_of}
use Rattle.cps_expr.proofs.words.read_words.Given as goal

abbrev pub invariant-items : goal.invariant-items
invariant-items l =
    (more : ℕ) × (length l.rest ≤ more)
    × Continues (option_map (λ list. list.items) l.kept) (words_up_to l.radix l.machine more l.rest) (words_of l.radix l.machine l.tail)

abbrev pub decreases-items : goal.decreases-items
decreases-items l = length l.rest
