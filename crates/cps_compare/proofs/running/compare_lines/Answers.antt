use Rattle.std.proofs.Common.{refl, subst, ◌∙◌}
use Rattle.std.specs.Prelude.{Err}
use Rattle.cps_compare.specs.Comparison.{Compares, Tells}
use Rattle.cps_compare.specs.Findings.{Findings}
use Rattle.cps_compare.proofs.OctalLemmas.{kept-text, found-same, reports}
use Rattle.cps_compare.proofs.running.compare_lines.Goals as goal

pub returns-in-Ok-compare : goal.returns-in-Ok-compare
returns-in-Ok-compare g c = λ bytes kept.
    let options = c.args.setup.options in
    let lines = c.args.lines.items in
    let told = c.in-Ok-compare.comparison in
    let text = kept-text c.args.text c.in-Some.text bytes c.in-Some.is kept in
    let found = found-same options c.deref.result.now bytes c.in-Ok.source lines (c.deref.ensures.value ∙ text) c.in-Ok.ensures in
    reports g.W.Write.contents options c.write_comparison.result bytes lines told c.args.writer.now c.write_comparison.new.writer c.requires.source
    (subst (λ (s : Findings). Tells options s told) found c.in-Ok-compare.ensures) c.write_comparison.ensures

pub returns : goal.returns
returns g c = λ bytes kept.
    let options = c.args.setup.options in
    let lines = c.args.lines.items in
    let text = kept-text c.args.text c.in-Some.text bytes c.in-Some.is kept in
    let found = found-same options c.deref.result.now bytes c.in-Ok.source lines (c.deref.ensures.value ∙ text) c.in-Ok.ensures in
    (c.requires.source, subst (λ (s : Findings). Compares options s (Err c.in-Err.fault)) found c.in-Err.ensures, refl)
