use Rattle.cps_text.proofs.SubstituteLemmas.{indexes-next}
use Rattle.cps_text.proofs.substitutes.index_of.Goals as goal

pub loop-pair-preserved : goal.loop-pair-preserved
loop-pair-preserved c =
    indexes-next c.args.pairs.now c.loop-pair.pair-index _ c.loop-pair.index c.enter.new.index c.loop-pair-test.true c.in_ok-enter.ensures.ok c.loop-pair.invariant
