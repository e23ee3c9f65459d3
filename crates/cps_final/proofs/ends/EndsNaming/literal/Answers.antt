use Rattle.std.proofs.Common.{ap, ◌∙◌}
use Rattle.std.specs.Option.{option_eq}
use Rattle.cps_final.specs.Outcome.{Resolved}
use Rattle.cps_final.specs.Finals.{literal}
use Rattle.cps_final.specs.Agreeing.{same_value}
use Rattle.cps_final.proofs.ends.EndsNaming.literal.Goals as goal

pub returns : goal.returns
returns c =
    let was = c.literal.ensures ∙ ap (λ (r : Resolved). r (literal c.args.word)) c.before-2.ensures in
    c.is_same.ensures ∙ (λ j. option_eq same_value (was j) (c.literal-2.ensures.literal j))
