use Rattle.std.proofs.Common.{rules, ◌≡◌, ◌-◌, sym, subst}
use Rattle.std.specs.Prelude.{IfOk}
use Rattle.cps_server.specs.Hovers.{defining_rows, rows_elsewhere}
use Rattle.cps_server.proofs.hovering.defining_rows.Goals as goal

pub returns-in-Some : goal.returns-in-Some
returns-in-Some c =
    let text = c.args.document.now in
    let line = c.args.line in
    let before : c.saturating_sub.result ≡ c.in-Some.spot.stretch.line - 1 = search rules in
    let rows =
    subst (λ defining. IfOk c.rows_elsewhere.result (λ rows. rows.items ≡ rows_elsewhere text line defining)) before c.rows_elsewhere.ensures in
    subst (λ spot. IfOk c.rows_elsewhere.result (λ rows. rows.items ≡ defining_rows text line spot)) (sym c.in-Some.is) rows
