use Rattle.std.proofs.Common.{◌≡◌, ◌++◌, length, take, ap, ◌∙◌, append_assoc}
use Rattle.std.proofs.lemmas.List.{take_min}
use Rattle.std.proofs.lemmas.Result.{on_ok_weaker}
use Rattle.cps_list.specs.Listing.{line_rows}
use Rattle.cps_server.specs.Rows.{more_rows, most_rows}
use Rattle.cps_server.proofs.rows.push_first_rows.Goals as goal

pub returns : goal.returns
returns c =
    let old = c.args.text.now.items in
    let rows = c.args.rows.now in
    let more = more_rows (length rows) in
    let front = line_rows c.args.number c.args.line.now (take most_rows rows) in
    let shown : take c.min.result rows ≡ take most_rows rows = ap (λ n. take n rows) c.min.ensures ∙ take_min most_rows rows in
    let pushed = c.in_ok-push_rows.ensures ∙ ap (λ rs. old ++ line_rows c.args.number c.args.line.now rs) shown in
    on_ok_weaker c.push_more.result (λ added. added ∙ ap (λ t. t ++ more) pushed ∙ append_assoc old front more) c.push_more.ensures
