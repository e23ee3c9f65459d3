use Rattle.std.proofs.Common.{ap, ◌∙◌}
use Rattle.std.specs.Option.{option_eq}
use Rattle.cps_final.specs.Outcome.{Resolved}
use Rattle.cps_final.specs.Finals.{block}
use Rattle.cps_final.specs.Agreeing.{same_value}
use Rattle.cps_final.proofs.ends.EndsNaming.block.Goals as goal

pub returns : goal.returns
returns c =
    let was = c.base.ensures ∙ ap (λ (r : Resolved). r (block c.args.name)) c.before-2.ensures in
    c.is_same.ensures ∙ (λ j. option_eq same_value (was j) (c.base-2.ensures.base j))
