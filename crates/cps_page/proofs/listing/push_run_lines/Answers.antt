use Rattle.std.proofs.Common.{◌≡◌, ℕ, ◌+◌, ◌≤◌, [], ◌∷◌, ap, subst, length, arith, refl, ◌∙◌}
use Rattle.cps_markup.specs.declared.place.Place.TheVariants.{Line}
use Rattle.cps_markup.specs.Links.{Leads}
use Rattle.cps_page.specs.Code.Making.{AddsLines}
use Rattle.cps_page.proofs.PageLemmas.{adds-same, lines-joined, lines-none, lines-one}
use Rattle.cps_page.proofs.listing.push_run_lines.Goals as goal

pub loop-before-init : goal.loop-before-init
loop-before-init g c = (c.requires.some, lines-none c.args.targets.now (g.V.View.assembly c.args.view.now) c.args.range.begin c.args.page.now.items)

pub loop-before-preserved : goal.loop-before-preserved
loop-before-preserved g c =
    let source = g.V.View.assembly c.args.view.now in
    let targets = c.args.targets.now in
    let P = Leads targets in
    let i = c.loop-before.before in
    let rows = c.of.result.text.now in
    let here = adds-same P rows rows (Line c.of.result.line ∷ []) (Line (i + 1) ∷ []) _ _ refl (ap (λ n. Line n ∷ []) c.of.ensures.line) c.in_ok-push_line.ensures in
    let one = lines-one targets source i c.in-Some.line.now c.bytes.result.now c.in-Some-outcome.outcome.now c.rows.result.now rows c.loop-before.page.items c.push_line.new.page.items
    c.in-Some.ensures.line c.in-Some-outcome.ensures.outcome c.bytes.ensures.value c.rows.ensures (c.of.ensures.text ∙ c.deref.ensures.value ∙ c.in_ok-fill_rows.ensures) here in
    (omega (arith, c.loop-before-test.true), lines-joined targets source c.args.range.begin i (i + 1) c.args.page.now.items c.loop-before.page.items c.push_line.new.page.items c.loop-before.invariant.1 one)

pub returns : goal.returns
returns g c =
    let invariant = c.loop-before.invariant in
    let low = invariant.0 in
    let same : c.loop-before.before ≡ c.args.range.end = omega (arith, low, c.loop-before-test.false) in
    subst (λ (j : ℕ). AddsLines c.args.targets.now (g.V.View.assembly c.args.view.now) c.args.range.begin j c.args.page.now.items c.loop-before.page.items) same invariant.1
