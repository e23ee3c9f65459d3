use Rattle.std.proofs.Common.{arith}
use Rattle.cps_server.proofs.marked_document.renew_words.Goals as goal

pub renew_if_resting-requires-clause-there : goal.renew_if_resting-requires-clause-there
renew_if_resting-requires-clause-there c =
    omega (arith, c.requires.count, c.loop-place.invariant.count, c.loop-place-test.true, c.len-place-end.ensures, c.args.kept.now.ok.0, c.loop-place.kept.ok.0)
