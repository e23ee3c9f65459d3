use Rattle.std.proofs.Common.{ap, ◌∙◌}
use Rattle.std.specs.Option.{option_eq}
use Rattle.cps_final.specs.Outcome.{Resolved}
use Rattle.cps_final.specs.Finals.{label}
use Rattle.cps_final.specs.Agreeing.{same_value}
use Rattle.cps_final.proofs.ends.EndsNaming.label.Goals as goal

pub returns : goal.returns
returns c =
    let was = c.label.ensures ∙ ap (λ (r : Resolved). r (label c.args.name)) c.before-2.ensures in
    c.is_same.ensures ∙ (λ j. option_eq same_value (was j) (c.label-2.ensures j))
