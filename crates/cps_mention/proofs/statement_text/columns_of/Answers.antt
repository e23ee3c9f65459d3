use Rattle.std.proofs.Common.{◌≤◌, ◌<◌, ◌+◌, ◌++◌, ◌∷◌, [], length, ap, ◌∙◌, arith}
use Rattle.cps_text.specs.Line.{longest_line}
use Rattle.cps_mention.specs.CallLines.{origins_of, written_on}
use Rattle.cps_mention.proofs.CallLineLemmas.{origins-more}
use Rattle.cps_mention.proofs.statement_text.columns_of.Goals as goal

pub loop-before-preserved : goal.loop-before-preserved
loop-before-preserved c = λ short.
    let at = c.loop-before.before in
    let within : at < length c.args.text.now = c.loop-before-test.true in
    let fits : at + 1 ≤ longest_line = omega arith in
    let items = c.loop-before.origins.items in
    let one = c.in_ok-push.ensures.items ∙ ap (λ s. items ++ s ∷ []) (c.behind.ensures fits) in
    origins-more c.args.line at at c.args.text.now items c.push.new.self.items (origins_of (written_on c.args.line 0 c.args.text.now)) within one (c.loop-before.invariant short)
