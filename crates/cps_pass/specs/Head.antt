-- Leaving the head of a program, and IDENT, ABS, PERIPH and BASE. From the manual's descriptions of these statements; what ends the head is our profile's.
use Rattle.std.specs.Prelude.{Bool, true, false, not, ◌||◌, Option, None, Some, is_none, if◌then◌else◌}
use Rattle.cps_text.specs.declared.name.Name.{Name}
use Rattle.cps_expr.specs.declared.machine.Machine.{Machine}
use Rattle.cps_expr.specs.declared.radix.Radix.{Radix}
use Rattle.cps_expr.specs.declared.radix.Radix.TheVariants.{Octal, Decimal}
use Rattle.cps_state.specs.declared.flags.Flags.{Flags}
use Rattle.cps_state.specs.declared.key.Key.TheVariants as key
use Rattle.cps_state.specs.declared.key.Answer.TheVariants as answer
use Rattle.cps_state.specs.declared.key.Control.{Control}
use Rattle.cps_state.specs.declared.key.Mode.TheVariants.{Normal}
use Rattle.cps_state.specs.declared.key.Phase.{Phase}
use Rattle.cps_state.specs.declared.key.Phase.TheVariants.{Head, Body, AfterEnd}
use Rattle.cps_state.specs.declared.key.Put.{Put}
use Rattle.cps_state.specs.Course.{Part, nothing, ◌before◌, put, fill}
use Rattle.cps_state.specs.Made.{nothing_made, no_flags}
use Rattle.cps_pass.specs.declared.reading.Location.{Location}
use Rattle.cps_pass.specs.Located.{is_present, present_flags}
use Rattle.cps_pass.specs.Making.{flagged}

-- what holds for the lines to come, which are assembled
abbrev pub control_put : Control → Put
control_put control = record { key = key.Control; answer = answer.Control control Normal }

abbrev pub putting_control : Control → Part
putting_control control = put (control_put control)

-- the program is in another part; all else stays
abbrev pub entering : Control → Phase → Part
entering control phase = putting_control (record control { phase = phase })

-- ---- leaving the head, where the program is in it

abbrev pub after_head : Phase → Phase
after_head (Head head) = Body
after_head Body = Body
after_head AfterEnd = AfterEnd

-- the control after a statement that ends the head
abbrev pub in_body : Control → Control
in_body control = record control { phase = after_head control.phase }

abbrev pub is_in_head : Phase → Bool
is_in_head (Head head) = true
is_in_head Body = false
is_in_head AfterEnd = false

-- the control that holds for a statement: the head ends, unless the statement stays in it
abbrev pub leaving_head : Bool → Control → (Control → Part) → Part
leaving_head stays control next =
    if stays || not (is_in_head control.phase) then next control else putting_control (in_body control) before next (in_body control)

-- ---- IDENT, and ABS or PERIPH: the first of each, in the head

-- a name comes too late: there is one already, or the head has ended
abbrev pub is_late_name : Phase → Bool
is_late_name (Head head) = head.is_named
is_late_name Body = true
is_late_name AfterEnd = true

-- the head, with a name; outside it nothing changes
abbrev pub with_name : Phase → Phase
with_name (Head head) = Head (record { is_named = true; is_declared = head.is_declared })
with_name Body = Body
with_name AfterEnd = AfterEnd

abbrev pub ident_flags : Phase → Location → Option Name → Flags
ident_flags phase location name = record no_flags { operand = is_none name; structure = is_late_name phase; location = is_present location }

-- None: the operand is unreadable
abbrev pub ident : Control → Location → Option Name → Part
ident control location None = flagged (ident_flags control.phase location None)
ident control location (Some name) =
    if is_late_name control.phase then flagged (ident_flags control.phase location (Some name))
    else entering control (with_name control.phase) before fill (record (nothing_made (ident_flags control.phase location (Some name))) { program = Some name })

-- a declaration comes too late: there is one already, or the head has ended
abbrev pub is_late_declaration : Phase → Bool
is_late_declaration (Head head) = head.is_declared
is_late_declaration Body = true
is_late_declaration AfterEnd = true

-- the head, with a declaration; outside it nothing changes
abbrev pub with_declaration : Phase → Phase
with_declaration (Head head) = Head (record { is_named = head.is_named; is_declared = true })
with_declaration Body = Body
with_declaration AfterEnd = AfterEnd

abbrev pub declaration_flags : Phase → Location → Flags
declaration_flags phase location = record no_flags { structure = is_late_declaration phase; location = is_present location }

abbrev pub declaring : Control → Machine → Part
declaring control machine =
    if is_late_declaration control.phase then nothing
    else putting_control (record control { phase = with_declaration control.phase; machine = machine })

-- ABS is for the central processor, PERIPH for a peripheral one
abbrev pub declaration : Control → Location → Machine → Part
declaration control location machine = declaring control machine before flagged (declaration_flags control.phase location)

-- ---- BASE: the base of numbers that no letter marks

abbrev pub same_radix : Radix → Radix → Bool
same_radix Octal Octal = true
same_radix Octal Decimal = false
same_radix Decimal Octal = false
same_radix Decimal Decimal = true

abbrev pub rebasing : Control → Radix → Part
rebasing control radix = if same_radix control.radix radix then nothing else putting_control (record control { radix = radix })

abbrev pub base : Control → Location → Radix → Part
base control location radix = rebasing control radix before flagged (present_flags location)
