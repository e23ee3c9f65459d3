use Rattle.std.proofs.Common.{◌∙◌}
use Rattle.cps_rpc.proofs.LineLemmas.{spliced}
use Rattle.cps_rpc.proofs.buffer.put_lines.Goals as goal

pub returns-clause-ok : goal.returns-clause-ok
returns-clause-ok c =
    let made = c.in_ok-splice.ensures.items in
    spliced c.args.lines.now.items _ c.args.news.items c.args.first c.args.end made.0 made.1 made.2.0 (made.2.1 ∙ c.args.news.ok.0) made.3 made.4
