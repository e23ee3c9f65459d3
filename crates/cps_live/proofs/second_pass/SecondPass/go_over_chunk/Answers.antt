use Rattle.std.proofs.Common.{arith, ◌≡◌, ◌+◌, ◌++◌, ◌&&◌, false, [], List, length, refl, sym, ap, subst, ◌∙◌}
use Rattle.std.specs.Prelude.{nat_eq}
use Rattle.std.proofs.Math.Bool.{and-false}
use Rattle.std.proofs.lemmas.Bool.{eqb-true}
use Rattle.std.proofs.lemmas.List.{nil_from_length}
use Rattle.cps_state.specs.Course.{Trace}
use Rattle.cps_final.specs.NamedFinals.{all_pass, names_in}
use Rattle.cps_final.specs.Agreeing.{same_at}
use Rattle.cps_edit.specs.Compares.{Steps}
use Rattle.cps_chunk.specs.Code.Chunk.{IsChunkOf}
use Rattle.cps_chunk.specs.declared.chunk.Chunk.{Chunk}
use Rattle.cps_final.specs.Code.Ends.{was_of, now_of}
use Rattle.cps_chunk.specs.Code.Redo.{is_passed}
use Rattle.cps_chunk.specs.Replayed.{redone}
use Rattle.cps_chunk.specs.Code.Walk.{stretch}
use Rattle.cps_live.specs.Code.StillChunks.{IsStillChunk}
use Rattle.cps_live.proofs.CountLemmas.{steps-none, looks-wider}
use Rattle.cps_live.proofs.SecondPassLemmas.{on-ok, none-made, goes-none, looks-all}
use Rattle.cps_live.proofs.second_pass.SecondPass.go_over_chunk.Goals as goal
use Rattle.cps_live.proofs.second_pass.SecondPass.go_over_chunk.Goals.{else-is_empty-via-then-is_empty+in_ok-passes+else-branch, else-is_empty-via-else-is_empty}

pub passes-requires-clause-chunk : goal.passes-requires-clause-chunk
passes-requires-clause-chunk c = subst (λ (us : List Trace). IsChunkOf c.args.self.now.base.hashing us c.args.chunk.now) (sym c.part-olds.ensures) c.requires.chunk

-- ---- it is passed

pub returns-in_err-passes-clause-chunk : goal.returns-in_err-passes-clause-chunk
returns-in_err-passes-clause-chunk c = record {
  chunk = subst (λ (us : List Trace). IsChunkOf c.args.self.now.base.hashing us c.passes.new.chunk) c.part-olds.ensures c.passes.ensures.chunk;
  lines = c.passes.ensures.lines;
}

pub returns-then-branch-clause-chunk : goal.returns-then-branch-clause-chunk
returns-then-branch-clause-chunk c = record {
  chunk = subst (λ (us : List Trace). IsChunkOf c.args.self.now.base.hashing us c.passes.new.chunk) c.part-olds.ensures c.passes.ensures.chunk;
  lines = c.passes.ensures.lines;
}

pub returns-then-branch-clause-over : goal.returns-then-branch-clause-over
returns-then-branch-clause-over c =
    let pass = c.args.self.now in
    let news = c.args.news.now in
    let end = c.args.at + c.args.chunk.now.lines in
    let empty : news ≡ [] = nil_from_length news (eqb-true (length news) 0 (sym c.is_empty.ensures ∙ c.if-is_empty.true)) in
    let same = ap (λ (us : List Trace). all_pass (same_at (was_of pass.redo.ends) (now_of pass.redo.ends)) (names_in us)) (sym c.part-olds.ensures)
    ∙ sym c.in_ok-passes.ensures.passes ∙ c.if-branch.true in
    goes-none pass c.args.at end news (none-made pass c.args.at end news empty same)

pub returns-then-branch-clause-steps : goal.returns-then-branch-clause-steps
returns-then-branch-clause-steps c =
    let pass = c.args.self.now in
    let news = c.args.news.now in
    let end = c.args.at + c.args.chunk.now.lines in
    let empty : news ≡ [] = nil_from_length news (eqb-true (length news) 0 (sym c.is_empty.ensures ∙ c.if-is_empty.true)) in
    let same = ap (λ (us : List Trace). all_pass (same_at (was_of pass.redo.ends) (now_of pass.redo.ends)) (names_in us)) (sym c.part-olds.ensures)
    ∙ sym c.in_ok-passes.ensures.passes ∙ c.if-branch.true in
    steps-none tt c.args.work.now _ (ap length (none-made pass c.args.at end news empty same))

-- ---- its lines are gone over

pub returns-clause-over : goal.returns-clause-over
returns-clause-over c =
    let pass = c.args.self.now in
    let remade = λ (us : List Trace). pass.redo.news.items ++ redone (was_of pass.redo.ends) (now_of pass.redo.ends) c.args.at c.args.news.now us in
    on-ok c.go_over_all.result (λ made. record { made = made ∙ ap remade c.part-olds.ensures; ends = c.go_over_all.ensures.ends; base = refl; differences = refl }) c.go_over_all.ensures.news

pub returns-clause-chunk : goal.returns-clause-chunk
returns-clause-chunk c =
    let pass = c.args.self.now in
    let still : Chunk → Type 0 = λ d. IsStillChunk pass.base c.args.at c.args.chunk.now d in
    elim c.else-is_empty.branch [
      | else-is_empty-via-then-is_empty+in_ok-passes+else-branch w ↦
          subst still (sym w.chunk-is) (record {
            chunk = subst (λ (us : List Trace). IsChunkOf pass.base.hashing us w.passes.new.chunk) c.part-olds.ensures w.passes.ensures.chunk;
            lines = w.passes.ensures.lines;
          })
      | else-is_empty-via-else-is_empty w ↦ subst still (sym w.chunk-is) (record { chunk = c.requires.chunk; lines = refl })
    ]

pub returns-clause-steps : goal.returns-clause-steps
returns-clause-steps c =
    let pass = c.args.self.now in
    let counts = λ (us : List Trace). Steps c.go_over_all.result c.args.work.now c.go_over_all.new.work 0
    (length (redone (was_of pass.redo.ends) (now_of pass.redo.ends) c.args.at c.args.news.now us)) in
    subst counts c.part-olds.ensures c.go_over_all.ensures.steps

pub returns-clause-looked : goal.returns-clause-looked
returns-clause-looked c =
    let pass = c.args.self.now in
    let was = was_of pass.redo.ends in
    let now = now_of pass.redo.ends in
    let news = c.args.news.now in
    let n = c.args.chunk.now.lines in
    let part = stretch c.args.at (c.args.at + n) pass.base.traces.now in
    let out : is_passed was now (names_in part) news ≡ false = elim c.else-is_empty.branch [
      | else-is_empty-via-then-is_empty+in_ok-passes+else-branch w ↦
          ap (λ test. nat_eq (length news) 0 && test)
          (ap (λ (us : List Trace). all_pass (same_at was now) (names_in us)) (sym c.part-olds.ensures) ∙ sym w.in_ok-passes.ensures.passes ∙ w.if-branch.false)
          ∙ and-false (nat_eq (length news) 0)
      | else-is_empty-via-else-is_empty w ↦ ap (λ test. test && all_pass (same_at was now) (names_in part)) (sym c.is_empty.ensures ∙ w.if-is_empty.false)
    ] in
    looks-wider c.args.work.now c.go_over_all.new.work (length c.part-olds.result.now) _
    (omega (arith, looks-all pass n c.args.at news out, ap length c.part-olds.ensures, c.requires.chunk.lines)) c.go_over_all.ensures.looked
