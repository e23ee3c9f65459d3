use Rattle.std.proofs.Common.{List, subst, sym, ap, ◌∙◌}
use Rattle.cps_chunk.specs.Code.Chunk.{AreChunksOf}
use Rattle.cps_chunk.specs.declared.chunk.Chunk.{Chunk}
use Rattle.cps_chunk.specs.declared.walk.Baseline.{Baseline}
use Rattle.cps_chunk.specs.Code.Walk.{IsBaseline}
use Rattle.cps_live.proofs.first_pass.FirstPass.of_splice.Goals as goal

pub go_over-entered-requires-clause-walk : goal.go_over-entered-requires-clause-walk
go_over-entered-requires-clause-walk c =
    let base = c.new-walk.ensures.base in
    let chunks = ap (λ cs. cs.items) (c.new-walk.ensures.chunks ∙ c.replace-olds.ensures.value) in
    record {
      base = subst IsBaseline (sym base) c.requires.base;
      chunks = subst (λ (b : Baseline). AreChunksOf b.hashing c.new-walk.result.chunks.items b.traces.now) (sym base)
          (subst (λ (cs : List Chunk). AreChunksOf c.args.base.hashing cs c.args.base.traces.now) (sym chunks) c.requires.chunks);
    }
