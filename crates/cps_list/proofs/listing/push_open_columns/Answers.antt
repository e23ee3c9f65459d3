use Rattle.std.proofs.Common.{rules, ◌++◌, codes, ap, ◌∙◌, append_assoc}
use Rattle.cps_list.specs.Columns.{at_left}
use Rattle.cps_list.proofs.listing.push_open_columns.Goals as goal

pub returns : goal.returns
returns c =
    let text = c.args.text.now.items in
    let shown = codes "open range at end of source" in
    let filled = c.in_ok-fill_columns.ensures.row text (codes "E") c.in_ok-push.ensures.items (search rules) in
    c.in_ok-extend_from_slice.ensures.items ∙ ap (λ t. t ++ shown) filled ∙ append_assoc text (at_left 44 (codes "E")) shown
