use Rattle.std.proofs.Common.{rules, arith, ◌≡◌, ◌+◌, ◌-◌, ◌<◌, ◌≤◌, length, ap, subst}
use Rattle.cps_edit.specs.Assembly.{assembly_of}
use Rattle.cps_server.specs.Document.{source_of_text}
use Rattle.cps_server.specs.Rows.{IsWhy, shown_rows}
use Rattle.cps_server.proofs.RowLemmas.{rows-none, shown-there, shows-behind, shows-none}
use Rattle.cps_server.proofs.rows.shown_behind.Goals as goal

pub returns-then-line-count : goal.returns-then-line-count
returns-then-line-count c =
    let source = source_of_text c.args.document.now in
    let same = ap length c.session.ensures in
    let past : length source ≤ c.args.line = omega (arith, same, c.count.ensures.count, c.if-line-count.true) in
    shows-none c.args.document.now c.args.line c.args.front.items (rows-none (assembly_of source) c.args.line past)

pub returns : goal.returns
returns c =
    let text = c.args.document.now in
    let line = c.args.line in
    let same = ap length c.session.ensures in
    let within : line < length (source_of_text text) = omega (arith, same, c.count.ensures.count, c.if-line-count.false) in
    let back : line + 1 - 1 ≡ line = omega arith in
    let why = subst (λ n. IsWhy text n c.in_ok-why.why.items) back c.in_ok-why.ensures in
    shows-behind text line c.args.front.items (shown_rows text line) c.in_ok-why.why.items _ (shown-there text line within) why (search rules)
