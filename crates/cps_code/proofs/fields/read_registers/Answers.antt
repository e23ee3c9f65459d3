use Rattle.std.proofs.Common.{◌<◌, length, drop, length-drop, sym, ap, ◌∙◌, arith}
use Rattle.std.proofs.lemmas.List.{length-map}
use Rattle.cps_code.specs.RowForms.{registers_in}
use Rattle.cps_code.specs.Code.Operations.{texts}
use Rattle.cps_code.proofs.FieldLemmas.{registers_in-end}
use Rattle.cps_code.proofs.fields.read_registers.Goals as goal

pub returns-in-None-clause-digits : goal.returns-in-None-clause-digits
returns-in-None-clause-digits c =
    let left = texts (drop c.loop-letters.letters-index c.args.registers.now) in
    let some : 0 < length left = grind (arith, length-drop, length-map) in
    sym c.loop-letters.invariant.digits ∙ ap (λ operands. registers_in left operands c.loop-letters.known) c.in-None.ensures ∙ registers_in-end left c.loop-letters.known some
