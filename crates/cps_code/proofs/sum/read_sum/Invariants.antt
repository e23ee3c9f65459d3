use Rattle.std.proofs.Common.{◌≡◌, length}
use Rattle.cps_code.specs.Sum.{Sum, sum_of}
use Rattle.cps_code.specs.Code.Terms.{IsKept}
use Rattle.cps_code.proofs.SumReading.{joined, rest_sum}
use Rattle.cps_code.proofs.sum.read_sum.Given as goal

abbrev pub invariant-terms : goal.invariant-terms
invariant-terms l = (so_far : Sum) × IsKept l.kept so_far × (joined so_far (rest_sum l.radix l.is_minus l.rest) ≡ sum_of l.radix l.text)

abbrev pub decreases-terms : goal.decreases-terms
decreases-terms l = length l.rest
