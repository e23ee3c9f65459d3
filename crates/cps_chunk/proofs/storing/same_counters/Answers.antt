use Rattle.std.proofs.Common.{◌≡◌, ◌<◌, ◌≤◌, ◌∙◌, true, length, sym, arith, rules}
use Rattle.cps_chunk.proofs.LeavingLemmas.{counters-next, counters-all}
use Rattle.cps_chunk.proofs.storing.same_counters.Goals as goal

pub loop-i-preserved : goal.loop-i-preserved
loop-i-preserved c =
    let olds : c.loop-i.i < length c.args.olds.now = omega arith in
    let news : c.loop-i.i < length c.args.news.now = omega arith in
    let yes : c.is_same_counter.result ≡ true = search rules in
    counters-next c.args.olds.now c.args.news.now c.loop-i.i c.index-olds-i.result c.index-news-i.result olds news c.index-olds-i.is c.index-news-i.is c.loop-i.invariant
    (sym c.is_same_counter.ensures ∙ yes)

pub returns : goal.returns
returns c h =
    let olds : length c.args.olds.now ≤ c.loop-i.i = omega arith in
    let news : length c.args.news.now ≤ c.loop-i.i = omega arith in
    counters-all c.args.olds.now c.args.news.now c.loop-i.i olds news c.loop-i.invariant
