use Rattle.std.proofs.Common.{arith, ◌≡◌, ◌-◌, ◌++◌, List, length, take, drop, ap, ◌∙◌}
use Rattle.std.proofs.lemmas.List.{length-drop}
use Rattle.cps_state.specs.Keys.{first_state, overwritten}
use Rattle.cps_state.specs.Course.{Trace}
use Rattle.cps_final.specs.Layout.{puts_of}
use Rattle.cps_chunk.proofs.WalkLemmas.{lengths-front, past-traces, as-long}
use Rattle.cps_chunk.proofs.walk.past_of.Goals as goal

pub split_at-requires-2 : goal.split_at-requires-2
split_at-requires-2 c = omega (arith, as-long c.args.base.lines.now c.args.base.traces.now c.requires.base.did, c.requires.behind, c.requires.within)

pub split_at-requires-3 : goal.split_at-requires-3
split_at-requires-3 c =
    let traces = c.args.base.traces.now in
    let rest : length c.split_at-2.result.1.now ≡ length traces - c.args.cursor.line = ap length c.split_at-2.ensures.back ∙ length-drop c.args.cursor.line traces in
    omega (arith, as-long c.args.base.lines.now traces c.requires.base.did, c.requires.behind, c.requires.within, rest)

pub of-requires-clause-chunks : goal.of-requires-clause-chunks
of-requires-clause-chunks c =
    rw (c.split_at.ensures.front, c.split_at-2.ensures.front)
    (lengths-front c.args.base.hashing c.args.chunks.now c.args.base.traces.now c.args.cursor.chunk c.args.cursor.line c.requires.cursor.line c.requires.chunks)

pub returns : goal.returns
returns c =
    let traces = c.args.base.traces.now in
    let n = c.args.at - c.args.cursor.line in
    let loose : c.split_at-3.result.0.now ≡ take n (drop c.args.cursor.line traces) = c.split_at-3.ensures.front ∙ ap (take n) c.split_at-2.ensures.back in
    let all : c.split_at-2.result.0.now ++ c.split_at-3.result.0.now ≡ take c.args.cursor.line traces ++ take n (drop c.args.cursor.line traces) =
    (λ i. c.split_at-2.ensures.front i ++ loose i) in
    c.of.ensures ∙ ap (λ (ts : List Trace). overwritten first_state (puts_of ts)) all
    ∙ past-traces c.args.base.lines.now traces c.requires.base.did c.args.cursor.line c.args.at c.requires.behind
