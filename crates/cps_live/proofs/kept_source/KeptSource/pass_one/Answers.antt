use Rattle.std.proofs.Common.{List, subst, sym, ap, ◌∙◌}
use Rattle.cps_state.specs.Course.{Trace}
use Rattle.cps_state.specs.Keys.{first_state}
use Rattle.cps_chunk.specs.Division.{AreChunks}
use Rattle.cps_edit.specs.Passes.{state_after}
use Rattle.cps_edit.proofs.SpliceLemmas.{puts-state}
use Rattle.cps_chunk.specs.Code.Chunk.{AreChunksOf}
use Rattle.cps_live.proofs.kept_source.KeptSource.pass_one.Goals as goal

pub of_append-requires-clause-state : goal.of_append-requires-clause-state
of_append-requires-clause-state c =
    c.state.ensures ∙ ap (λ finals. finals.state) c.requires.kept.finals ∙ puts-state first_state c.args.self.now.lines.items
    ∙ ap (state_after first_state) (sym c.deref.ensures.value)

pub returns-clause-kept : goal.returns-clause-kept
returns-clause-kept c =
    let kept = c.requires.kept.lines in
    let made = c.of_splice.ensures in
    record {
      lines = record {
        first = kept.first;
        did = kept.did;
        made = kept.made;
        chunks = subst (λ (ts : List Trace). AreChunksOf c.args.self.now.hashing c.of_splice.new.chunks.items ts) c.deref-2.ensures.value made.chunks;
        divided = subst AreChunks (sym made.lengths) kept.divided;
        read = kept.read;
      };
      finals = c.requires.kept.finals;
    }
