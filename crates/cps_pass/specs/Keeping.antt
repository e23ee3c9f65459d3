-- Lines that are kept: the body of a macro, and the lines of DUP. From the manual's descriptions of DUP, ENDD, MACRO and ENDM; that uncounted DUPs are
-- matched by the number of their operands alone, that a MACRO in a body isn't kept, and how long a body may be, are our profile's.
use Rattle.std.specs.Prelude.{ℕ, ◌+◌, ◌-◌, Bool, true, false, ◌||◌, nat_lt, nat_eq, Option, None, Some, if◌then◌else◌}
use Rattle.cps_text.specs.declared.limits.TheConstants.{MOST_BODY_LINES}
use Rattle.cps_text.specs.declared.name.Name.{Name}
use Rattle.cps_state.specs.declared.flags.Flags.{Flags}
use Rattle.cps_state.specs.declared.key.DupBody.{DupBody}
use Rattle.cps_state.specs.declared.key.Extent.{Extent}
use Rattle.cps_state.specs.declared.key.Extent.TheVariants.{Counted, ToEndd}
use Rattle.cps_state.specs.declared.key.KeptLines.{KeptLines}
use Rattle.cps_state.specs.declared.key.MacroBody.{MacroBody}
use Rattle.cps_state.specs.declared.key.Mode.{Mode}
use Rattle.cps_state.specs.declared.key.Mode.TheVariants.{Normal, KeepMacro, KeepDup}
use Rattle.cps_state.specs.Made.{no_flags}
use Rattle.cps_pass.specs.declared.reading.Location.{Location}
use Rattle.cps_pass.specs.Located.{present_flags}
use Rattle.cps_pass.specs.declared.seen.Seen.{Seen}
use Rattle.cps_pass.specs.declared.seen.Seen.TheVariants.{Repeats, Endd, Defines, Endm}
use Rattle.cps_pass.specs.declared.treatment.Treatment.{Treatment}
use Rattle.cps_pass.specs.declared.treatment.Treatment.TheVariants.{Passes, Defines as DefinesMacro, Opens}
use Rattle.cps_pass.specs.Skipping.{deeper}

-- ---- what the bodies of both share

-- how many lines a body may have
abbrev pub most_body : ℕ
most_body = MOST_BODY_LINES

abbrev pub no_lines : KeptLines
no_lines = record { lines = 0; is_over = false }

-- one line more of a body, with which it goes on so; past the most it has E, and isn't kept
abbrev pub one_more : (KeptLines → Mode) → KeptLines → Treatment
one_more going kept =
    if nat_lt kept.lines most_body then Passes (going (record kept { lines = kept.lines + 1 })) (Some kept.lines) no_flags
    else Passes (going (record kept { is_over = true })) None (record no_flags { structure = true })

-- a body is too long where lines past the most came, or where more than the most are counted, which no source leads to
abbrev pub is_too_long : KeptLines → Bool
is_too_long kept = kept.is_over || nat_lt most_body kept.lines

-- the line that closes a body that is too long, or one that is dropped: lines are assembled again
abbrev pub dropping : Flags → Treatment
dropping flags = Passes Normal None flags

-- ---- the body of a macro

abbrev pub macro_with : MacroBody → KeptLines → Mode
macro_with body kept = KeepMacro (record body { kept = kept })

-- None: the definition is dropped
abbrev pub defined_as : MacroBody → Option Name → Location → Treatment
defined_as body None location = dropping (present_flags location)
defined_as body (Some name) location = DefinesMacro name body location

-- ENDM: E where there were too many lines
abbrev pub ended_macro : MacroBody → Location → Treatment
ended_macro body location =
    if is_too_long body.kept then dropping (record (present_flags location) { structure = true }) else defined_as body body.name location

abbrev pub kept_for_macro : MacroBody → Seen → Treatment
kept_for_macro body (Endm location) = ended_macro body location
kept_for_macro body Defines = Passes (KeepMacro body) None (record no_flags { structure = true })
kept_for_macro body _ = one_more (macro_with body) body.kept

-- ---- the lines of DUP

abbrev pub dup_with : DupBody → Extent → KeptLines → Mode
dup_with body extent kept = KeepDup (record { times = body.times; extent = extent; kept = kept })

-- the line that closes them: they are opened, with this line or without it; E and none where there were too many
abbrev pub closing : DupBody → Bool → Flags → Treatment
closing body with_line flags = if is_too_long body.kept then dropping (record flags { structure = true }) else Opens body with_line flags

abbrev pub going_on_to : DupBody → Extent → Treatment
going_on_to body extent = one_more (dup_with body extent) body.kept

-- the last of a number of lines closes them, and is one of them; up to ENDD those of other DUPs are counted
abbrev pub kept_for_dup : DupBody → Extent → Seen → Treatment
kept_for_dup body (Counted left) seen = if nat_lt 1 left then going_on_to body (Counted (left - 1)) else closing body true no_flags
kept_for_dup body (ToEndd nested) Repeats = going_on_to body (ToEndd (deeper nested))
kept_for_dup body (ToEndd nested) (Endd location) =
    if nat_eq nested 0 then closing body false (present_flags location) else going_on_to body (ToEndd (nested - 1))
kept_for_dup body (ToEndd nested) _ = going_on_to body (ToEndd nested)
