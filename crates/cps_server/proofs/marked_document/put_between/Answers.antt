use Rattle.std.proofs.Common.{◌∙◌}
use Rattle.cps_rpc.proofs.LineLemmas.{spliced}
use Rattle.cps_server.proofs.marked_document.put_between.Goals as goal

pub returns : goal.returns
returns c =
    let made = c.in_ok-splice.ensures.items in
    spliced c.args.kept.now.items _ c.args.come.items c.args.first c.args.end made.0 made.1 made.2.0 (made.2.1 ∙ c.args.come.ok.0) made.3 made.4
