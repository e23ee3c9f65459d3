use Rattle.std.proofs.Common.{arith, ◌≡◌, ◌+◌, ◌∙◌, ◌∷◌, ◌++◌, [], List, ℕ, ap, length, refl, subst, sym}
use Rattle.std.specs.Prelude.{sum, vec_len}
use Rattle.cps_state.specs.Course.{Trace}
use Rattle.cps_state.specs.Keys.{first_state}
use Rattle.cps_final.specs.Outcome.{Outcome}
use Rattle.cps_chunk.specs.Division.{AreChunks, IsDivision, inserted_at}
use Rattle.cps_edit.specs.Disturbed.{finals_in}
use Rattle.cps_edit.specs.Passes.{outcomes_by, traces_of}
use Rattle.cps_edit.proofs.RedoLemmas.{length-outcomes}
use Rattle.cps_edit.proofs.SpliceLemmas.{length-traces_from}
use Rattle.cps_chunk.specs.Code.Chunk.{AreChunksOf, lengths_of}
use Rattle.cps_chunk.specs.declared.sparse.SparseItem.{SparseItem}
use Rattle.cps_chunk.specs.Replayed.{redone}
use Rattle.cps_chunk.specs.Sparse.{AreWithin, renewed}
use Rattle.cps_chunk.proofs.ReplayedLemmas.{redone-within}
use Rattle.cps_live.specs.Code.NamesRead.{HasRead, has_all}
use Rattle.cps_live.proofs.BehindLemmas.{outcomes-behind, traces-behind}
use Rattle.cps_live.proofs.ExchangeLemmas.{lines-long, lines-total}
use Rattle.cps_live.proofs.NamesReadLemmas.{all-joined, all-renewed}
use Rattle.cps_live.proofs.kept_source.KeptSource.commit_with.Goals as goal

pub put_all-requires : goal.put_all-requires
put_all-requires c =
    let h = c.requires in
    let kept = c.args.self.now in
    let lines = kept.lines.items in
    let was = finals_in lines in
    let now = finals_in (lines ++ c.args.line ∷ []) in
    let long : length kept.outcomes.items ≡ length lines = ap length h.kept.made ∙ length-outcomes was (traces_of lines) ∙ length-traces_from first_state lines in
    let count : 0 + length kept.traces.items ≡ vec_len kept.outcomes = omega (arith, lines-long h.kept, long, kept.outcomes.ok.0) in
    subst (λ (ns : List (SparseItem Outcome)). AreWithin 0 (vec_len kept.outcomes) ns) (sym h.made.renewed)
    (subst (λ (n : ℕ). AreWithin 0 n (redone was now 0 [] kept.traces.items)) count (redone-within was now 0 [] kept.traces.items))

pub returns-clause-kept : goal.returns-clause-kept
returns-clause-kept c =
    let h = c.requires in
    let kept = c.args.self.now in
    let lines = kept.lines.items in
    let line = c.args.line in
    let was = finals_in lines in
    let now = finals_in (lines ++ line ∷ []) in
    let has = λ (o : Outcome). has_all kept.read o.read in
    let lengths = lengths_of kept.chunks.items in
    let there = c.push_reserved.ensures.items in
    let renewed_all = c.put_all.ensures.items ∙ ap (λ (ns : List (SparseItem Outcome)). renewed 0 ns kept.outcomes.items) (h.made.renewed ∙ ap (redone was now 0 []) h.kept.did) in
    let division : IsDivision (sum lengths) lengths = record { chunks = h.kept.divided; total = refl } in
    let again = c.an_insertion_divides_again.ensures (sum lengths) (sum lengths) lengths division in
    record {
      first = h.kept.first;
      did = c.push_reserved-2.ensures.items ∙ (λ i. h.kept.did i ++ h.trace i ∷ []) ∙ sym (traces-behind lines line) ∙ ap traces_of (sym there);
      made = c.push_reserved-3.ensures.items ∙ (λ i. renewed_all i ++ h.made.own i ∷ []) ∙ outcomes-behind lines line was now kept.outcomes.items h.kept.made
          ∙ ap (λ ls. outcomes_by (finals_in ls) (traces_of ls)) (sym there);
      chunks = subst (λ (ts : List Trace). AreChunksOf kept.hashing c.grow_last.new.chunks.items ts) (sym c.push_reserved-2.ensures.items) (c.grow_last.ensures.chunks kept.traces.items h.kept.chunks);
      divided = subst AreChunks (sym c.grow_last.ensures.lengths) again.0.chunks;
      read = subst (λ (os : List Outcome). HasRead kept.read os) (sym c.push_reserved-3.ensures.items)
          (all-joined has c.put_all.new.items.items (c.args.outcomes.own ∷ [])
          (subst (λ (os : List Outcome). HasRead kept.read os) (sym c.put_all.ensures.items) (all-renewed has 0 c.args.outcomes.renewed.items kept.outcomes.items h.read.renewed h.kept.read))
          h.read.own);
    }

pub returns-clause-appended : goal.returns-clause-appended
returns-clause-appended c =
    let lengths = lengths_of c.args.self.now.chunks.items in
    record { lines = c.push_reserved.ensures.items; lengths = c.grow_last.ensures.lengths ∙ ap (λ n. inserted_at n lengths) (lines-total c.requires.kept) }
