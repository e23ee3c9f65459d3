use Rattle.std.proofs.Common.{◌≡◌, ◌+◌, ◌∷◌, [], ◌++◌, sym, ap, subst, arith}
use Rattle.std.specs.Prelude.{unwrap_or}
use Rattle.cps_input.specs.Sources.{IsSource}
use Rattle.cps_input.specs.Code.Input.{IsIntake}
use Rattle.cps_input.specs.declared.intake.Intake.TheVariants.{Kept}
use Rattle.cps_input.proofs.InputLemmas.{source-more}
use Rattle.cps_input.proofs.intake.keep.Goals as goal

pub returns-in-None : goal.returns-in-None
returns-in-None c = λ lines line come is.
    let text = c.in-Some.text.now in
    let same : text ≡ line = rw c.in-Some.is at is in
    let kept = c.in-None.ensures in
    let number = ap (λ n. n + 1) c.len-2.ensures in
    let source = subst IsSource (sym come.0) come.1 in
    let after = unwrap_or c.push_line.result (Kept c.push_line.new.lines) in
    subst (λ ls. IsIntake after (ls ++ line ∷ [])) come.0
    (subst (λ l. IsIntake after (c.args.lines.now ++ l ∷ [])) same
    (c.push_line.ensures number (source-more c.args.lines.now text source kept.0 (omega (arith, kept.1, c.len-2.ensures)))))
