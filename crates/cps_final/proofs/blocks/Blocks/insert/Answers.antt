use Rattle.std.proofs.Common.{max, ap, ◌∙◌}
use Rattle.cps_final.proofs.BlockLemmas.{layout-inserted}
use Rattle.cps_final.proofs.blocks.Blocks.insert.Goals as goal

pub returns-clause-layout : goal.returns-clause-layout
returns-clause-layout c =
    layout-inserted c.args.self.now.named c.insert.new.self c.args.name c.args.words c.max-size.result (c.max-size.ensures ∙ ap (λ n. max n c.args.words) c.size.ensures)
    c.args.self.now.nominal c.in-Ok.ensures.updates c.in-Ok.ensures.entries
