use Rattle.std.proofs.Common.{arith, ◌≡◌, ◌∙◌, refl, sym, ap, subst, List, length}
use Rattle.std.specs.Prelude.{vec_len}
use Rattle.cps_state.specs.Course.{Trace}
use Rattle.cps_chunk.specs.Division.{AreChunks}
use Rattle.cps_chunk.specs.Code.Pieces.{lines_of}
use Rattle.cps_chunk.specs.declared.exchange.RecutChunk.{RecutChunk}
use Rattle.cps_edit.specs.Exchange.{exchanged}
use Rattle.cps_final.specs.Outcome.{Outcome}
use Rattle.cps_edit.specs.Disturbed.{finals_in}
use Rattle.cps_edit.specs.Passes.{traces_of, outcomes_by}
use Rattle.cps_chunk.specs.declared.chunk.Chunk.{Chunk}
use Rattle.cps_chunk.specs.Code.Chunk.{AreChunksOf}
use Rattle.cps_chunk.specs.Sparse.{renewed}
use Rattle.cps_chunk.specs.Code.MovedChunks.{AreMoved}
use Rattle.cps_live.specs.Code.NamesRead.{HasRead, has_all}
use Rattle.cps_live.proofs.NamesReadLemmas.{all-exchanged, all-renewed}
use Rattle.cps_live.proofs.ExchangeLemmas.{lines-long, lines-total, moved-chunks, moved-did, moved-divided, moved-made, moved-outcome_places, moved-outcomes_long, moved-trace_places, moved-traces_long, turned-items, turned-within}
use Rattle.cps_live.proofs.kept_source.KeptSource.commit_moved.Goals as goal

pub mark_all-requires : goal.mark_all-requires
mark_all-requires c =
    let h = c.requires in
    moved-trace_places h.kept h.runs h.parts _ _ c.deref.ensures.value (lines-total h.kept)

pub put_all-requires : goal.put_all-requires
put_all-requires c =
    let h = c.requires in
    let count : vec_len c.args.self.now.traces ≡ length c.args.self.now.lines.items = omega (arith, lines-long h.kept, c.args.self.now.traces.ok.0) in
    moved-trace_places h.kept h.runs h.parts _ _ refl count

pub put_all-requires-2 : goal.put_all-requires-2
put_all-requires-2 c =
    let h = c.requires in
    moved-outcome_places h.kept h.runs h.parts

pub turn-requires-2 : goal.turn-requires-2
turn-requires-2 c =
    let h = c.requires in
    turned-within h.kept h.runs h.parts _ _ (c.deref_mut-2.ensures.value ∙ c.put_all.ensures.items) (moved-traces_long h.kept h.runs h.parts)

pub turn-requires-3 : goal.turn-requires-3
turn-requires-3 c =
    let h = c.requires in
    turned-within h.kept h.runs h.parts _ _ (c.deref_mut-3.ensures.value ∙ c.put_all-2.ensures.items) (moved-outcomes_long h.kept h.runs h.parts)

pub chunks_moved-requires-clause-moved : goal.chunks_moved-requires-clause-moved
chunks_moved-requires-clause-moved c =
    let h = c.requires in
    let olds : List Trace = c.args.self.now.traces.items in
    let were = ap (λ v. v.items) c.replace-olds.ensures.value in
    let marked : AreChunksOf c.args.self.now.hashing c.mark_all.new.chunks.items (renewed 0 c.args.parts.traces.items olds) =
    subst (λ ns. AreChunksOf c.args.self.now.hashing c.mark_all.new.chunks.items (renewed 0 ns olds)) c.deref.ensures.value (c.mark_all.ensures.chunks olds h.kept.chunks) in
    let moved = c.deref-3.ensures.value
    ∙ turned-items h.kept h.runs h.parts c.put_all.new.items _ _ c.turn-2.ensures c.deref_mut-2.ensures.value (ap length c.put_all.ensures.items ∙ moved-traces_long h.kept h.runs h.parts)
    ∙ ap (exchanged c.args.exchange) c.put_all.ensures.items in
    subst (λ (cs : List Chunk). AreMoved c.args.self.now.hashing cs c.deref-2.result.now c.deref-3.result.now) (sym were)
    (subst (λ (ps : List RecutChunk). AreMoved c.args.self.now.hashing c.mark_all.new.chunks.items ps c.deref-3.result.now) (sym c.deref-2.ensures.value)
    (moved-chunks h.kept h.runs h.parts c.args.self.now.hashing c.mark_all.new.chunks.items c.deref-3.result.now c.mark_all.ensures.lengths marked moved))

pub returns-clause-kept : goal.returns-clause-kept
returns-clause-kept c =
    let h = c.requires in
    let e = c.args.exchange in
    let lines = turned-items h.kept h.runs h.parts c.args.self.now.lines _ _ c.turn.ensures c.deref_mut.ensures.value refl in
    let traces =
    turned-items h.kept h.runs h.parts c.put_all.new.items _ _ c.turn-2.ensures c.deref_mut-2.ensures.value (ap length c.put_all.ensures.items ∙ moved-traces_long h.kept h.runs h.parts)
    ∙ ap (exchanged e) c.put_all.ensures.items in
    let outcomes =
    turned-items h.kept h.runs h.parts c.put_all-2.new.items _ _ c.turn-3.ensures c.deref_mut-3.ensures.value (ap length c.put_all-2.ensures.items ∙ moved-outcomes_long h.kept h.runs h.parts)
    ∙ ap (exchanged e) c.put_all-2.ensures.items in
    let olds : List Outcome = c.args.self.now.outcomes.items in
    let has = λ (o : Outcome). has_all c.args.self.now.read o.read in
    let lengths = c.chunks_moved.ensures.lengths ∙ ap lines_of c.deref-2.ensures.value ∙ h.parts.pieces.lengths in
    record {
      first = h.kept.first;
      did = traces ∙ moved-did h.kept h.runs h.parts ∙ ap traces_of (sym lines);
      made = outcomes ∙ moved-made h.kept h.runs h.parts ∙ ap (λ ls. outcomes_by (finals_in ls) (traces_of ls)) (sym lines);
      chunks = subst (λ (ts : List Trace). AreChunksOf c.args.self.now.hashing c.chunks_moved.result.items ts) c.deref-3.ensures.value c.chunks_moved.ensures.chunks;
      divided = subst AreChunks (sym lengths) (moved-divided h.kept h.runs h.parts);
      read = subst (λ (os : List Outcome). HasRead c.args.self.now.read os) (sym outcomes)
          (all-exchanged has e (renewed 0 c.args.parts.outcomes.items olds) (all-renewed has 0 c.args.parts.outcomes.items olds h.read h.kept.read));
    }
