use Rattle.std.proofs.Common.{◌≤◌, length, rules}
use Rattle.cps_final.specs.Values.{placed_statement}
use Rattle.cps_final.specs.Resolving.{resolved, view_of}
use Rattle.cps_final.proofs.OutcomeLemmas.{flags-all}
use Rattle.cps_final.proofs.rows.flags_with_contents.Goals as goal

pub returns : goal.returns
returns c =
    let made = c.args.item.now.made in
    let past : length made.contents ≤ c.loop-content.content-index = search rules in
    flags-all (placed_statement (resolved c.args.finals.now) c.args.item.now) (view_of c.of-statement.result) made.flags c.loop-content.flags made.contents c.loop-content.content-index
    past c.of-statement.ensures c.loop-content.invariant
