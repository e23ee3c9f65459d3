use Rattle.std.proofs.Common.{ap, sym, subst, ◌∙◌, ◌+◌, ◌-◌, ◌≤◌}
use Rattle.cps_chunk.proofs.DivisionLemmas.{deleted-chunks, deleted-sum}
use Rattle.cps_chunk.proofs.DeletionLemmas.{deleted-stay}
use Rattle.cps_chunk.proofs.division_laws.a_deletion_divides_again.Goals as goal

pub returns : goal.returns
returns c = λ keep gone count lengths division within. (
  record {
    chunks = deleted-chunks keep gone lengths division.chunks;
    total = deleted-sum keep gone lengths (subst (λ n. keep + gone ≤ n) (sym division.total) within) ∙ ap (λ n. n - gone) division.total;
  },
  deleted-stay keep gone lengths division.chunks,
)
