use Rattle.cps_compare.proofs.RunLemmas.{told-more}
use Rattle.cps_compare.proofs.sides.Sides.tell_words.Goals as goal

pub loop-word-preserved : goal.loop-word-preserved
loop-word-preserved g c = λ found kept.
    let at = c.loop-word.word-index in
    told-more found.told c.args.words.now at _ c.args.telling.now.text.items c.loop-word.telling.text.items _ c.loop-word-test.true
    (c.loop-word.invariant found kept) (c.in_ok-tell.ensures found kept)
