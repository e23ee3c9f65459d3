use Rattle.std.proofs.Common.{sym, ap, ◌∙◌}
use Rattle.cps_expr.specs.declared.machine.Machine.TheVariants.{Cp, Pp}
use Rattle.cps_text.specs.CardFields.{statement_value}
use Rattle.cps_pass.specs.Reading.{instruction_in}
use Rattle.cps_pass.proofs.StatementLemmas.{assembled-opens, there-is, unnamed-said, instruction-leaves}
use Rattle.cps_pass.proofs.statement.assemble_unnamed.Goals as goal

pub returns-in-Cp : goal.returns-in-Cp
returns-in-Cp g c =
    let control = c.args.control in
    let operation = c.args.statement.operation.now in
    let tail = c.args.statement.tail.now in
    let said = ap (λ machine. instruction_in machine control.radix operation tail) (sym c.in-Cp.is) ∙ unnamed-said control.machine control.radix operation tail (there-is operation (sym c.if-is_empty.false ∙ c.is_empty.ensures)) c.requires in
    assembled-opens control c.in_ok-control.control c.args.scope.now c.args.scope.now (statement_value c.args.statement) c.read_location-location.result
    (instruction_in Cp control.radix operation tail) _ g.L.Lookup.answer c.args.recorder.now c.leave_head.new.recorder c.assemble_central.new.recorder c.assemble_central.result
    c.read_location-location.ensures said (instruction-leaves Cp control.radix operation tail) c.in_ok-control.ensures.control c.assemble_central.ensures

pub returns-in-Pp : goal.returns-in-Pp
returns-in-Pp g c =
    let control = c.args.control in
    let operation = c.args.statement.operation.now in
    let tail = c.args.statement.tail.now in
    let said = ap (λ machine. instruction_in machine control.radix operation tail) (sym c.in-Pp.is) ∙ unnamed-said control.machine control.radix operation tail (there-is operation (sym c.if-is_empty.false ∙ c.is_empty.ensures)) c.requires in
    assembled-opens control c.in_ok-control.control c.args.scope.now c.args.scope.now (statement_value c.args.statement) c.read_location-location.result
    (instruction_in Pp control.radix operation tail) _ g.L.Lookup.answer c.args.recorder.now c.leave_head.new.recorder c.assemble_peripheral.new.recorder c.assemble_peripheral.result
    c.read_location-location.ensures said (instruction-leaves Pp control.radix operation tail) c.in_ok-control.ensures.control c.assemble_peripheral.ensures
