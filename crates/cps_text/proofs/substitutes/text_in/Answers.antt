use Rattle.std.proofs.Common.{Some, ap, ◌∙◌}
use Rattle.std.specs.Prelude.{option_map}
use Rattle.std.specs.BTreeMap.{get}
use Rattle.cps_text.specs.Code.NameNumbers.{number_order}
use Rattle.cps_text.specs.Code.Substitutes.{substitute_value}
use Rattle.cps_text.proofs.substitutes.text_in.Goals as goal

pub returns-in-Some : goal.returns-in-Some
returns-in-Some c = λ pairs was.
    ap Some c.text.ensures
    ∙ ap (option_map substitute_value) (c.in-Some.ensures.value ∙ ap (get number_order c.args.index.now) c.of.ensures.number)
    ∙ was c.args.name c.of.ensures.bytes

pub returns-in-None : goal.returns-in-None
returns-in-None c = λ pairs was.
    ap (option_map substitute_value) (c.in-None.ensures.value ∙ ap (get number_order c.args.index.now) c.of.ensures.number)
    ∙ was c.args.name c.of.ensures.bytes
