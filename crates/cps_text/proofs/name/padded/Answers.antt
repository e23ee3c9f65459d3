use Rattle.cps_text.proofs.NameLemmas.{padded-more}
use Rattle.cps_text.proofs.name.padded.Goals as goal

pub loop-i-preserved : goal.loop-i-preserved
loop-i-preserved c =
    rw (c.loop-i.invariant, c.capital.ensures) (padded-more c.args.text.now c.loop-i.i c.loop-i-test.true c.requires)
