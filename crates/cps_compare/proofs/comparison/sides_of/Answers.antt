use Rattle.std.proofs.Common.{ap, sym}
use Rattle.cps_compare.specs.Comparison.{found_as, sides_of}
use Rattle.cps_compare.proofs.comparison.sides_of.Goals as goal

pub returns-in_ok-sides-in-Words : goal.returns-in_ok-sides-in-Words
returns-in_ok-sides-in-Words g c =
    let assembly = g.V.View.assembly c.args.view.now in
    let octal = c.args.octal.now in (
      sides_of c.args.options c.in-Words.format octal assembly,
      c.in_ok-sides-in-Words.ensures,
      ap (λ format. found_as format c.args.options octal assembly) c.in-Words.is,
    )
