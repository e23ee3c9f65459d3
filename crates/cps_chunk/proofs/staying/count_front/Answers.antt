use Rattle.std.proofs.Common.{inl, inr, ◌<◌, length, arith}
use Rattle.cps_chunk.proofs.StayingLemmas.{drop-next, drop-other, drop-beyond, drop-end}
use Rattle.cps_chunk.proofs.staying.count_front.Goals as goal

pub returns-then-old-news-clause-same : goal.returns-then-old-news-clause-same
returns-then-old-news-clause-same c =
    let olds = c.args.olds.now in
    let news = c.args.news.now in
    let i = c.loop-i.i in
    let o : i < length olds = omega (arith, c.loop-i-test.true, c.min-most.ensures) in
    let n : i < length news = omega (arith, c.loop-i-test.true, c.min-most.ensures) in
    elim c.then-old-news.either [
      | inl other ↦ omega (arith, c.loop-i.invariant, drop-other c.loop-i.left i olds news o n other)
      | inr over ↦ omega (arith, c.loop-i.invariant, drop-beyond c.loop-i.left i olds news o n over.1)
    ]

pub loop-i-preserved : goal.loop-i-preserved
loop-i-preserved c =
    let olds = c.args.olds.now in
    let news = c.args.news.now in
    let i = c.loop-i.i in
    let o : i < length olds = omega (arith, c.loop-i-test.true, c.min-most.ensures) in
    let n : i < length news = omega (arith, c.loop-i-test.true, c.min-most.ensures) in
    omega (arith, c.loop-i.invariant, drop-next c.loop-i.left i olds news o n c.if-old-news.false c.if-old-left.false)

pub returns-clause-same : goal.returns-clause-same
returns-clause-same c =
    omega (arith, c.loop-i.invariant, drop-end c.loop-i.left c.loop-i.i c.args.olds.now c.args.news.now (omega (arith, c.loop-i-test.false, c.min-most.ensures)))
