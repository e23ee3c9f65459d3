use Rattle.std.proofs.Common.{ap, ◌∙◌}
use Rattle.cps_final.specs.Finals.{Finals, final_value, literal}
use Rattle.cps_final.proofs.former_finals.FormerFinals.literal.Goals as goal

pub returns : goal.returns
returns c = c.literal.ensures.literal ∙ ap (λ (f : Finals). final_value f (literal c.args.word)) c.storage.ensures
