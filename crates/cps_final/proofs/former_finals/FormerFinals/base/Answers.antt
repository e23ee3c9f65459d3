use Rattle.std.proofs.Common.{ap, ◌∙◌}
use Rattle.cps_final.specs.Finals.{Finals, final_value, block}
use Rattle.cps_final.proofs.former_finals.FormerFinals.base.Goals as goal

pub returns : goal.returns
returns c = c.base.ensures.base ∙ ap (λ (f : Finals). final_value f (block c.args.block)) c.storage.ensures
