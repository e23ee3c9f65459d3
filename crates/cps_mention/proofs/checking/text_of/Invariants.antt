use Rattle.std.proofs.Common.{◌≡◌, take}
use Rattle.std.specs.List.{flat_map}
use Rattle.cps_mention.specs.Mentions.{AreIn, text_in}
use Rattle.cps_mention.proofs.checking.text_of.Given as goal

abbrev pub invariant-loop-stretch : goal.invariant-loop-stretch
invariant-loop-stretch g l =
    AreIn (g.V.View.assembly l.view).lines (take l.stretch-index l.stretches)
    × (l.text.items ≡ flat_map (text_in (g.V.View.assembly l.view).lines) (take l.stretch-index l.stretches))
