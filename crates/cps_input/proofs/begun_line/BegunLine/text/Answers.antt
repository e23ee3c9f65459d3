use Rattle.std.proofs.Common.{◌∙◌, ap}
use Rattle.cps_input.specs.Lines.{without_return}
use Rattle.cps_input.proofs.BegunLemmas.{begun-more, begun-return, begun-nothing}
use Rattle.cps_input.proofs.begun_line.BegunLine.text.Goals as goal

pub returns-in-More : goal.returns-in-More
returns-in-More c = λ begun is. begun-more _ begun is c.in-More.is

pub returns-in-Return : goal.returns-in-Return
returns-in-Return c = λ begun is. c.as_slice.ensures.value ∙ begun-return _ begun is c.in-Return.is

pub returns-in-Nothing : goal.returns-in-Nothing
returns-in-Nothing c = λ begun is. c.without_return.ensures ∙ ap without_return (c.as_slice-in-Nothing.ensures.value ∙ begun-nothing _ begun is c.in-Nothing.is)
