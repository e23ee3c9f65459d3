use Rattle.std.proofs.Common.{sym, ◌∙◌}
use Rattle.cps_text.proofs.ArgumentLemmas.{closed_inside}
use Rattle.cps_text.proofs.argument.is_inside.Goals as goal

pub returns-then-depth-eq0 : goal.returns-then-depth-eq0
returns-then-depth-eq0 c =
    sym (closed_inside c.loop-byte.depth c.loop-byte.byte-index c.args.text.now c.if-depth-eq0.true c.loop-byte-test.true) ∙ c.loop-byte.invariant.0
