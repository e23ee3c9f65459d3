use Rattle.std.proofs.Common.{List, ℕ, [], subst, rules}
use Rattle.cps_markup.specs.Links.{Leads}
use Rattle.cps_markup.specs.Code.Adding.{Adds}
use Rattle.cps_markup.proofs.AddsLemmas.{adds-cut, adds-end}
use Rattle.cps_markup.proofs.rows.push_rows.Goals as goal

pub loop-rest-preserved : goal.loop-rest-preserved
loop-rest-preserved c = λ last later.
    let P = Leads c.args.targets.now in
    let here = subst (λ (text : List ℕ). Adds P text [] c.loop-rest.page.items c.push_row.new.page.items) c.of.ensures c.in_ok-push_row.ensures in
    c.loop-rest.invariant last (adds-cut P c.row_length.result c.loop-rest.rest.now _ _ _ _ last c.split_at.ensures.front c.split_at.ensures.back here later)

pub returns : goal.returns
returns c = c.loop-rest.invariant c.loop-rest.page.items (adds-end (Leads c.args.targets.now) c.loop-rest.rest.now c.loop-rest.page.items (search rules))
