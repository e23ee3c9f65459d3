use Rattle.std.proofs.Common.{rules, arith, ◌≤◌, length}
use Rattle.indexmap.specs.IndexMap.{spare}
use Rattle.cps_final.proofs.BlockLemmas.{names-few}
use Rattle.cps_final.proofs.blocks.Blocks.reserve.Goals as goal

pub returns-then-puts-spare-clause-room : goal.returns-then-puts-spare-clause-room
returns-then-puts-spare-clause-room c =
    let enough : length c.args.puts.now ≤ spare c.args.self.now.named = search rules in
    omega (arith, names-few c.args.puts.now, enough)
