use Rattle.std.proofs.Common.{arith, sym, ◌∙◌}
use Rattle.cps_state.proofs.LogLemmas.{key-before, key-found}
use Rattle.cps_state.proofs.log.newest_ask.Goals as goal

pub returns-then-is_same_key-clause-found : goal.returns-then-is_same_key-clause-found
returns-then-is_same_key-clause-found c = λ state.
    key-found state c.args.asks.now c.loop-place.place _ c.args.key.now c.loop-place-test.true c.loop-place.invariant.within
    (sym c.is_same_key.ensures ∙ c.if-is_same_key.true) ∙ sym (c.loop-place.invariant.others state)

pub loop-place-preserved : goal.loop-place-preserved
loop-place-preserved c =
    let within = c.loop-place.invariant.within in
    record {
      within = omega (arith, within);
      others = λ state. c.loop-place.invariant.others state ∙ key-before state c.args.asks.now c.loop-place.place _ c.args.key.now c.loop-place-test.true within
          (sym c.is_same_key.ensures ∙ c.if-is_same_key.false);
    }
