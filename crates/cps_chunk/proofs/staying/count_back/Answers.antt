use Rattle.std.proofs.Common.{inl, inr, ◌+◌, ◌-◌, ◌<◌, sym, ap, ◌∙◌, length, drop, reverse, arith}
use Rattle.std.proofs.lemmas.List.{length-reverse, get_or-reverse}
use Rattle.cps_chunk.specs.Staying.{same_front}
use Rattle.cps_chunk.proofs.StayingLemmas.{drop-next, drop-other, drop-beyond, drop-end}
use Rattle.cps_chunk.proofs.staying.count_back.Goals as goal

pub returns-then-old-news-clause-same : goal.returns-then-old-news-clause-same
returns-then-old-news-clause-same c =
    let olds = reverse c.args.olds.now in
    let news = reverse c.args.news.now in
    let i = c.loop-i.i in
    let old = get_or-reverse c.args.olds.now i 0 (omega (arith, c.loop-i-test.true, c.min-most.ensures)) in
    let new = get_or-reverse c.args.news.now i 0 (omega (arith, c.loop-i-test.true, c.min-most.ensures)) in
    let o : i < length olds = omega (arith, c.loop-i-test.true, c.min-most.ensures, length-reverse c.args.olds.now) in
    let n : i < length news = omega (arith, c.loop-i-test.true, c.min-most.ensures, length-reverse c.args.news.now) in
    elim c.then-old-news.either [
      | inl other ↦ omega (arith, c.loop-i.invariant, drop-other c.loop-i.left i olds news o n (λ same. other (sym old ∙ same ∙ new)))
      | inr over ↦ omega (arith, c.loop-i.invariant, drop-beyond c.loop-i.left i olds news o n (omega (arith, old, over.1)))
    ]

pub loop-i-preserved : goal.loop-i-preserved
loop-i-preserved c =
    let olds = reverse c.args.olds.now in
    let news = reverse c.args.news.now in
    let i = c.loop-i.i in
    let left = c.loop-i.left in
    let old = get_or-reverse c.args.olds.now i 0 (omega (arith, c.loop-i-test.true, c.min-most.ensures)) in
    let new = get_or-reverse c.args.news.now i 0 (omega (arith, c.loop-i-test.true, c.min-most.ensures)) in
    let o : i < length olds = omega (arith, c.loop-i-test.true, c.min-most.ensures, length-reverse c.args.olds.now) in
    let n : i < length news = omega (arith, c.loop-i-test.true, c.min-most.ensures, length-reverse c.args.news.now) in
    let next = drop-next left i olds news o n (old ∙ c.if-old-news.false ∙ sym new) (omega (arith, old, c.if-old-left.false)) in
    let same = ap (λ k. same_front (left - k) (drop (i + 1) olds) (drop (i + 1) news)) old in
    omega (arith, c.loop-i.invariant, next, same)

pub returns-clause-same : goal.returns-clause-same
returns-clause-same c =
    let olds = c.args.olds.now in
    let news = c.args.news.now in
    let none = drop-end c.loop-i.left c.loop-i.i (reverse olds) (reverse news) (omega (arith, c.loop-i-test.false, c.min-most.ensures, length-reverse olds, length-reverse news)) in
    omega (arith, c.loop-i.invariant, none)
