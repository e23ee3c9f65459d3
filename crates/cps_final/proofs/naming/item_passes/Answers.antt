use Rattle.std.proofs.Common.{rules, ◌≡◌, ◌∙◌, true, false}
use Rattle.cps_final.specs.Code.NamesPassing.{contents_pass}
use Rattle.cps_final.proofs.NamingLemmas.{item-fails, item-join}
use Rattle.cps_final.proofs.naming.item_passes.Goals as goal

pub returns : goal.returns
returns g c =
    let test = g.N.Naming.passes c.args.naming.now in
    let item = c.args.item.now in
    let passed : contents_pass test item.made.held item.made.contents ≡ true = search rules in
    c.blocks_pass.ensures ∙ item-join test item passed

pub returns-then-not-contents_pass : goal.returns-then-not-contents_pass
returns-then-not-contents_pass g c =
    let test = g.N.Naming.passes c.args.naming.now in
    let item = c.args.item.now in
    let failed : contents_pass test item.made.held item.made.contents ≡ false = search rules in
    item-fails test item failed
