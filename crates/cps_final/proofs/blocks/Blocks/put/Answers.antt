use Rattle.std.proofs.Common.{ap, ◌∙◌}
use Rattle.cps_final.specs.Layout.{words_before}
use Rattle.cps_final.proofs.BlockLemmas.{grown-counter}
use Rattle.cps_final.proofs.blocks.Blocks.put.Goals as goal

pub returns-in-Counter-clause-layout : goal.returns-in-Counter-clause-layout
returns-in-Counter-clause-layout c =
    grown-counter _ _ c.args.put.now c.in-Counter.block c.words_before.result c.in-Counter.is (c.words_before.ensures ∙ ap words_before c.place_of.ensures.place)
    c.put_words.ensures.layout
