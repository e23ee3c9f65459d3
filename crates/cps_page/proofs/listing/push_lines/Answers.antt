use Rattle.std.proofs.Common.{◌≤◌, length, arith}
use Rattle.cps_page.proofs.PageLemmas.{lines-all, lines-joined, lines-none}
use Rattle.cps_page.proofs.listing.push_lines.Goals as goal

pub loop-begin-init : goal.loop-begin-init
loop-begin-init g c = lines-none c.args.targets.now (g.V.View.assembly c.args.view.now) 0 c.args.page.now.items

pub loop-begin-preserved : goal.loop-begin-preserved
loop-begin-preserved g c =
    lines-joined c.args.targets.now (g.V.View.assembly c.args.view.now) 0 c.loop-begin.begin _ c.args.page.now.items c.loop-begin.page.items c.push_run.new.page.items
    c.loop-begin.invariant c.in_ok-push_run.ensures

pub returns : goal.returns
returns g c =
    let source = g.V.View.assembly c.args.view.now in
    let all : length source.lines ≤ c.loop-begin.begin = omega (arith, c.count.ensures.lines, c.loop-begin-test.false) in
    lines-all c.args.targets.now source c.loop-begin.begin c.args.page.now.items c.loop-begin.page.items all c.loop-begin.invariant
