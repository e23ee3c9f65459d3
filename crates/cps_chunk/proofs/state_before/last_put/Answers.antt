use Rattle.std.proofs.Common.{◌≡◌, ap, ◌∙◌, None}
use Rattle.cps_state.specs.Course.{last_put}
use Rattle.cps_chunk.proofs.PastLemmas.{line-found, line-passed}
use Rattle.cps_chunk.proofs.state_before.last_put.Goals as goal

pub returns-in-Some-last_of : goal.returns-in-Some-last_of
returns-in-Some-last_of c =
    line-found _ _ c.in-Some.trace.now c.args.key.now c.in-Some-last_of.answer.now _ c.in-Some.ensures.steps
    (c.in-Some-last_of.ensures ∙ ap (λ puts. last_put puts c.args.key.now) c.puts.ensures) c.loop-trace.invariant

pub loop-trace-preserved : goal.loop-trace-preserved
loop-trace-preserved c =
    let none : None ≡ last_put c.puts.result.now c.args.key.now = c.in_default.ensures in
    line-passed _ _ c.in-Some.trace.now c.args.key.now _ c.in-Some.ensures.steps (none ∙ ap (λ puts. last_put puts c.args.key.now) c.puts.ensures) c.loop-trace.invariant
