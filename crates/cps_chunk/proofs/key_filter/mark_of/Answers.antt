use Rattle.std.proofs.Common.{arith, ◌≡◌, ◌∙◌, ap, ◌/◌, ◌%◌, ◌^◌}
use Rattle.cps_chunk.specs.KeyFilter.{mark_of}
use Rattle.cps_chunk.proofs.key_filter.mark_of.Goals as goal

pub returns-clause-mark : goal.returns-clause-mark
unfolding mark_of
returns-clause-mark c =
    let low : c.hash_one.result / 2 ^ 42 ≡ c.hash_one.result / 2 ^ 42 % 2 ^ 22 = omega arith in
    low ∙ ap (λ hash. hash / 2 ^ 42 % 2 ^ 22) c.hash_one.ensures
