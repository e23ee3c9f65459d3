use Rattle.std.proofs.Common.{List, subst, sym}
use Rattle.cps_state.specs.Course.{Trace}
use Rattle.cps_chunk.specs.Division.{AreChunks}
use Rattle.cps_chunk.specs.Code.Chunk.{AreChunksOf}
use Rattle.cps_live.proofs.kept_source.KeptSource.pass_one_moved.Goals as goal

pub returns-clause-kept : goal.returns-clause-kept
returns-clause-kept c =
    let kept = c.requires.kept.lines in
    let made = c.of_exchange.ensures in
    record {
      lines = record {
        first = kept.first;
        did = kept.did;
        made = kept.made;
        chunks = subst (λ (ts : List Trace). AreChunksOf c.args.self.now.hashing c.of_exchange.new.chunks.items ts) c.deref-2.ensures.value made.chunks;
        divided = subst AreChunks (sym made.lengths) kept.divided;
        read = kept.read;
      };
      finals = c.requires.kept.finals;
    }
