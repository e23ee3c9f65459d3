use Rattle.std.proofs.Common.{◌≡◌, ◌+◌, drop, arith, rules, ap, ◌∙◌}
use Rattle.std.proofs.lemmas.Bool.Decides.{nat_tests}
use Rattle.cps_state.specs.Machines.{behind}
use Rattle.cps_state.specs.Made.{end_of}
use Rattle.cps_state.proofs.PlaceLemmas.{end-next, end-not-before}
use Rattle.cps_state.proofs.made.end_of.Goals as goal

pub returns-then-at-limit_of : goal.returns-then-at-limit_of
returns-then-at-limit_of c =
    let contents = c.args.contents.now in
    let i = c.loop-content.content-index in
    let next = c.behind-at.result in
    let moved : next ≡ behind c.args.machine c.loop-content.at _ = c.behind-at.ensures ∙ ap (behind c.args.machine c.loop-content.at) c.width.ensures.width in
    let left = end-next c.args.machine c.loop-content.at next (end_of c.args.machine c.args.start contents) contents i c.content-item.result (search rules) c.content-item.is moved c.loop-content.invariant.left in
    let after = end-not-before c.args.machine next (drop (i + 1) contents) in
    let past = c.if-at-limit_of.true in
    let is = c.limit_of.ensures in
    grind (arith, nat_tests)
