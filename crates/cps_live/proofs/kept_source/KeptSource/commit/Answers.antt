use Rattle.std.proofs.Common.{arith, ◌∙◌, ◌++◌, refl, List, sym, ap, subst, take, drop}
use Rattle.cps_state.specs.Course.{Trace}
use Rattle.cps_chunk.specs.Division.{AreChunks}
use Rattle.cps_chunk.specs.Recut.{recut}
use Rattle.cps_final.specs.Outcome.{Outcome}
use Rattle.cps_edit.specs.Disturbed.{finals_in}
use Rattle.cps_edit.specs.Passes.{traces_of, outcomes_by}
use Rattle.cps_chunk.specs.Code.Chunk.{AreChunksOf}
use Rattle.cps_chunk.specs.Sparse.{renewed}
use Rattle.cps_chunk.proofs.SparseLemmas.{length-renewed}
use Rattle.cps_live.specs.Code.NamesRead.{HasRead, has_all}
use Rattle.cps_live.proofs.NamesReadLemmas.{all-put, all-renewed}
use Rattle.cps_live.proofs.KeptLemmas.{cut-fits, cut-room, entered-outcomes, entered-traces, outcome-places, outcomes-edited, outcomes-long, trace-places_all, traces-edited, traces-long}
use Rattle.cps_live.proofs.kept_source.KeptSource.commit.Goals as goal

pub mark_all-requires : goal.mark_all-requires
mark_all-requires c =
    let h = c.requires in
    trace-places_all h.kept h.cut _ h.traces c.deref.ensures.value h.cut.recuts.total

pub put-requires-clause-within : goal.put-requires-clause-within
put-requires-clause-within c =
    let h = c.requires in
    omega (arith, h.cut.recuts.within, traces-long h.kept h.cut, c.args.self.now.traces.ok.0)

pub put-requires-clause-places : goal.put-requires-clause-places
put-requires-clause-places c =
    let h = c.requires in
    trace-places_all h.kept h.cut _ h.traces refl (omega (arith, traces-long h.kept h.cut, c.args.self.now.traces.ok.0))

pub put-requires-clause-room : goal.put-requires-clause-room
put-requires-clause-room c =
    let h = c.requires in
    omega (arith, h.room.traces, entered-traces h.kept h.cut h.traces, c.args.parts.traces.entered.ok.0, c.args.cut.lines.ok.0)

pub put-requires-2-clause-within : goal.put-requires-2-clause-within
put-requires-2-clause-within c =
    let h = c.requires in
    omega (arith, h.cut.recuts.within, outcomes-long h.kept h.cut, c.args.self.now.outcomes.ok.0)

pub put-requires-2-clause-places : goal.put-requires-2-clause-places
put-requires-2-clause-places c =
    let h = c.requires in
    outcome-places h.kept h.cut _ h.outcomes (omega (arith, outcomes-long h.kept h.cut, c.args.self.now.outcomes.ok.0))

pub put-requires-2-clause-room : goal.put-requires-2-clause-room
put-requires-2-clause-room c =
    let h = c.requires in
    omega (arith, h.room.outcomes, entered-outcomes h.kept h.cut h.outcomes, c.args.parts.outcomes.entered.ok.0, c.args.cut.lines.ok.0)

pub put_chunks-requires-clause-fits : goal.put_chunks-requires-clause-fits
put_chunks-requires-clause-fits c =
    let h = c.requires in
    let olds : List Trace = c.args.self.now.traces.items in
    let did : List Trace = renewed 0 c.args.parts.traces.renewed.items olds in
    let later = record c.args.cut { lines = c.replace-lines.new.dest } in
    let marked : AreChunksOf c.args.self.now.hashing c.mark_all.new.chunks.items did =
    subst (λ ns. AreChunksOf c.args.self.now.hashing c.mark_all.new.chunks.items (renewed 0 ns olds)) c.deref.ensures.value (c.mark_all.ensures.chunks olds h.kept.chunks) in (
      did,
      cut-fits h.kept h.cut later c.mark_all.new.chunks.items did c.args.parts.traces.entered.items _ c.mark_all.ensures.lengths
          (length-renewed 0 c.args.parts.traces.renewed.items olds ∙ traces-long h.kept h.cut) (entered-traces h.kept h.cut h.traces) (c.deref-2.ensures.value ∙ c.put.ensures) _ marked,
    )

pub put_chunks-requires-clause-room : goal.put_chunks-requires-clause-room
put_chunks-requires-clause-room c =
    let h = c.requires in
    let olds : List Trace = c.args.self.now.traces.items in
    let did : List Trace = renewed 0 c.args.parts.traces.renewed.items olds in
    let later = record c.args.cut { lines = c.replace-lines.new.dest } in
    cut-room h.kept h.cut later c.mark_all.new.chunks.items did c.args.parts.traces.entered.items _ c.mark_all.ensures.lengths
    (length-renewed 0 c.args.parts.traces.renewed.items olds ∙ traces-long h.kept h.cut) (entered-traces h.kept h.cut h.traces) (c.deref-2.ensures.value ∙ c.put.ensures)
    c.mark_all.new.chunks _ refl c.mark_all.ensures.room h.room

pub returns-clause-kept : goal.returns-clause-kept
returns-clause-kept c =
    let h = c.requires in
    let cut = c.args.cut in
    let lines = c.put_at.ensures ∙ ap (λ ns. take cut.keep c.args.self.now.lines.items ++ (ns ++ drop cut.from c.args.self.now.lines.items)) (ap (λ v. v.items) c.replace-lines.ensures.value) in
    let olds : List Outcome = c.args.self.now.outcomes.items in
    let has = λ (o : Outcome). has_all c.args.self.now.read o.read in
    let lengths = c.put_chunks.ensures.lengths ∙ ap (recut cut.start cut.end cut.lengths.items) c.mark_all.ensures.lengths in
    record {
      first = h.kept.first;
      did = c.put.ensures ∙ traces-edited h.kept h.cut h.traces ∙ ap traces_of (sym lines);
      made = c.put-2.ensures ∙ outcomes-edited h.kept h.cut h.outcomes ∙ ap (λ ls. outcomes_by (finals_in ls) (traces_of ls)) (sym lines);
      chunks = subst (λ (ts : List Trace). AreChunksOf c.args.self.now.hashing c.put_chunks.new.chunks.items ts) c.deref-2.ensures.value c.put_chunks.ensures.chunks;
      divided = subst AreChunks (sym lengths) h.cut.recuts.made;
      read = subst (λ (os : List Outcome). HasRead c.args.self.now.read os) (sym c.put-2.ensures)
          (all-put has cut.keep cut.from c.args.parts.outcomes.entered.items (renewed 0 c.args.parts.outcomes.renewed.items olds) h.read.entered
          (all-renewed has 0 c.args.parts.outcomes.renewed.items olds h.read.renewed h.kept.read));
    }
