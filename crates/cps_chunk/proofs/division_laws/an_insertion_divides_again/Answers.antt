use Rattle.std.proofs.Common.{ap, ◌∙◌, ◌+◌}
use Rattle.cps_chunk.proofs.DivisionLemmas.{inserted-chunks, inserted-sum, inserted-stay}
use Rattle.cps_chunk.proofs.division_laws.an_insertion_divides_again.Goals as goal

pub returns : goal.returns
returns c = λ after count lengths division. (
  record { chunks = inserted-chunks after lengths division.chunks; total = inserted-sum after lengths division.chunks ∙ ap (λ n. n + 1) division.total },
  inserted-stay after lengths,
)
