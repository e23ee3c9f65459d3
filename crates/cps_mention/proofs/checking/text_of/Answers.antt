use Rattle.std.proofs.Common.{length, get_or}
use Rattle.std.proofs.lemmas.List.Elements.{All-more}
use Rattle.cps_mention.specs.Mentions.{IsStretch, text_in}
use Rattle.cps_mention.proofs.CheckingLemmas.{text-more}
use Rattle.cps_mention.proofs.checking.text_of.Goals as goal

pub loop-stretch-preserved : goal.loop-stretch-preserved
loop-stretch-preserved g c =
    let lines = (g.V.View.assembly c.args.view.now).lines in
    let stretches = c.args.stretches.now in
    let i = c.loop-stretch.stretch-index in
    let before = c.loop-stretch.invariant in (
      All-more (IsStretch lines) stretches i _ c.loop-stretch-test.true before.0 c.in-Some.ensures.columns,
      text-more (text_in lines) stretches i _ c.loop-stretch.text.items c.in-Some.part.now c.extend_from_slice.new.self.items c.loop-stretch-test.true before.1
          c.in-Some.ensures.text c.in_ok-extend_from_slice-in-Some.ensures.items,
    )
