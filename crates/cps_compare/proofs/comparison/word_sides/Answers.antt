use Rattle.std.proofs.Common.{ap, ◌∙◌}
use Rattle.cps_final.specs.Finals.{machine_of}
use Rattle.cps_compare.proofs.KeptLemmas.{are-words}
use Rattle.cps_compare.proofs.comparison.word_sides.Goals as goal

pub returns : goal.returns
returns g c =
    are-words c.args.options c.args.format c.args.octal.now (g.V.View.assembly c.args.view.now) c.machine-machine.result c.layout_of-layout.result
    c.in_ok-reading.reading c.in_ok-deck.deck (c.machine-machine.ensures ∙ ap machine_of c.finals.ensures) c.layout_of-layout.ensures
    c.in_ok-reading.ensures.reading c.in_ok-reading.ensures.words c.in_ok-deck.ensures
