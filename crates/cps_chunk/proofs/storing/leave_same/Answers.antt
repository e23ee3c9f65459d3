use Rattle.std.proofs.Common.{rules, arith, true, ◌≡◌, length, sym, ◌∙◌}
use Rattle.cps_chunk.proofs.LeavingLemmas.{left-one, left-none}
use Rattle.cps_chunk.proofs.storing.leave_same.Goals as goal

pub returns-then-news-eq1 : goal.returns-then-news-eq1
returns-then-news-eq1 c h =
    let olds : length c.args.olds.now ≡ 1 = omega arith in
    let news : length c.args.news.now ≡ 1 = omega arith in
    left-one c.args.olds.now c.args.news.now c.index-olds-0.result c.index-news-0.result olds news c.index-olds-0.is c.index-news-0.is (c.leaves_same.ensures h)

pub returns-then-leave_nothing : goal.returns-then-leave_nothing
returns-then-leave_nothing c h =
    let yes : c.leave_nothing.result ≡ true = search rules in
    left-none c.args.olds.now (sym c.leave_nothing.ensures ∙ yes) ∙ sym (left-none c.args.news.now (sym c.leave_nothing-then-leave_nothing.ensures ∙ h))
