use Rattle.std.proofs.Common.{arith, sym, ◌∙◌}
use Rattle.cps_state.proofs.StateLemmas.{overwritten-next, overwritten-all, last-first, one-fewer}
use Rattle.cps_state.proofs.state.State.put_all.Goals as goal

pub put-requires : goal.put-requires
put-requires c =
    let fewer = one-fewer _ _ _ c.in-Some.ensures.items in
    let room = c.loop-put.invariant.room in
    omega (arith, fewer, room)

pub loop-put-preserved : goal.loop-put-preserved
loop-put-preserved c =
    let fewer = one-fewer _ _ _ c.in-Some.ensures.items in
    let room = c.loop-put.invariant.room in
    let spare = c.put.ensures.room in
    record {
      room = omega (arith, fewer, room, spare);
      left = overwritten-next _ _ _ _ _ _ (last-first _ _ _ c.in-Some.ensures.items) c.put.ensures.answer c.loop-put.invariant.left;
    }

pub returns-clause-answer : goal.returns-clause-answer
returns-clause-answer c = overwritten-all _ _ c.loop-put.puts.items (sym c.loop-put.puts.ok.0 ∙ c.in_default.ensures.cases.0) c.loop-put.invariant.left
