use Rattle.std.proofs.Common.{rules, None, Ok, sym, ap, ◌∙◌}
use Rattle.cps_text.specs.CardFields.{statement_value}
use Rattle.cps_pass.specs.declared.reading.Reading.TheVariants.{Stated, Unreadable}
use Rattle.cps_pass.specs.Reading.{row_or_none}
use Rattle.cps_pass.specs.Meaning.{row_stays}
use Rattle.cps_pass.specs.Scope.{opens_nothing}
use Rattle.cps_pass.proofs.StatementLemmas.{assembled-opens, named-said, unread}
use Rattle.cps_pass.proofs.statement.assemble_named.Goals as goal

pub returns-in_ok-obey_row-in-Ok : goal.returns-in_ok-obey_row-in-Ok
returns-in_ok-obey_row-in-Ok g c =
    let control = c.args.control in
    let said = ap (row_or_none c.args.named) (sym c.in-Ok.ensures.row)
    ∙ named-said control.machine control.radix c.args.statement.operation.now c.args.statement.tail.now c.args.named c.requires in
    assembled-opens {V = Unit {0}} control c.in_ok-control-in-Ok.control c.args.scope.now c.obey_row.new.scope (statement_value c.args.statement) c.read_location-location.result
    (Stated c.in-Ok.stated) c.row_stays.result g.L.Lookup.answer c.args.recorder.now c.leave_head.new.recorder c.obey_row.new.recorder (Ok None)
    c.read_location-location.ensures said (c.row_stays.ensures ∙ ap row_stays c.row.ensures) c.in_ok-control-in-Ok.ensures.control
    (λ behind rest. rw (← c.into_row.ensures) (c.in_ok-obey_row-in-Ok.ensures (opens_nothing behind) rest))

pub returns-in_ok-obey_unreadable-in-Err-Unreadable : goal.returns-in_ok-obey_unreadable-in-Err-Unreadable
returns-in_ok-obey_unreadable-in-Err-Unreadable g c =
    let control = c.args.control in
    let none = unread c.read-read.result _ c.in-Err-Unreadable.field-0 c.in-Err-Unreadable.is (search rules) c.read-read.ensures.row in
    let said = ap (row_or_none c.args.named) none
    ∙ named-said control.machine control.radix c.args.statement.operation.now c.args.statement.tail.now c.args.named c.requires in
    assembled-opens {V = Unit {0}} control c.in_ok-control-in-Err-Unreadable.control c.args.scope.now c.obey_unreadable.new.scope (statement_value c.args.statement)
    c.read_location-location.result (Unreadable c.args.named) c.operation_stays.result g.L.Lookup.answer c.args.recorder.now c.leave_head-in-Err-Unreadable.new.recorder
    c.obey_unreadable.new.recorder (Ok None) c.read_location-location.ensures said c.operation_stays.ensures c.in_ok-control-in-Err-Unreadable.ensures.control
    (λ behind rest. c.in_ok-obey_unreadable-in-Err-Unreadable.ensures (opens_nothing behind) rest)
