-- DUP and ENDD where lines are assembled. From the manual's descriptions of these statements; how often lines may be repeated, how many they may be, and which
-- values are no such numbers, are our profile's.
use Rattle.std.specs.Prelude.{ℕ, nat_lt, nat_le, Option, None, Some, if◌then◌else◌}
use Rattle.cps_text.specs.declared.limits.TheConstants.{MOST_TIMES}
use Rattle.cps_expr.specs.declared.pseudo.Repetition.{Repetition}
use Rattle.cps_expr.specs.Expression.{Expression}
use Rattle.cps_state.specs.declared.flags.Flags.{Flags}
use Rattle.cps_state.specs.declared.key.Control.{Control}
use Rattle.cps_state.specs.declared.key.Extent.{Extent}
use Rattle.cps_state.specs.declared.key.Extent.TheVariants.{Counted, ToEndd}
use Rattle.cps_state.specs.declared.key.Mode.TheVariants.{KeepDup}
use Rattle.cps_state.specs.Course.{Part}
use Rattle.cps_state.specs.Flags.{joined}
use Rattle.cps_state.specs.Made.{no_flags}
use Rattle.cps_pass.specs.declared.reading.Location.{Location}
use Rattle.cps_pass.specs.declared.value_now.ValueNow.{ValueNow}
use Rattle.cps_pass.specs.Located.{present_flags}
use Rattle.cps_pass.specs.Numbers.{between, plain_number}
use Rattle.cps_pass.specs.ValueNow.{now_here}
use Rattle.cps_pass.specs.declared.scope.Scope.{Scope}
use Rattle.cps_pass.specs.Keeping.{most_body, no_lines}
use Rattle.cps_pass.specs.Ranges.{count_flags}
use Rattle.cps_pass.specs.Scope.{going_by, flagging}

-- how often lines may be repeated
abbrev pub most_times : ℕ
most_times = MOST_TIMES

-- how often: a plain number; one with a flag is 0
abbrev pub times_in : Option ℕ → ℕ
times_in None = 0
times_in (Some number) = if nat_le number most_times then number else 0

-- E where it is too often; U for an undefined name, A for what is no such number
abbrev pub times_flags : ValueNow → Option ℕ → Flags
times_flags value None = count_flags value None
times_flags value (Some number) = record no_flags { structure = nat_lt most_times number }

abbrev pub repeating : Control → Scope → Location → ValueNow → Extent → (Scope → Part) → Part
repeating control scope location times extent next =
    going_by control scope (KeepDup (record { times = times_in (plain_number times); extent = extent; kept = no_lines }))
    (λ later. flagging (joined (present_flags location) (times_flags times (plain_number times))) later next)

-- so many lines: a plain number; where it is none nothing is kept
abbrev pub body_count : ValueNow → Option ℕ
body_count value = between 1 most_body (plain_number value)

abbrev pub repeating_lines : Control → Scope → Location → ValueNow → ValueNow → Option ℕ → (Scope → Part) → Part
repeating_lines control scope location times lines None next =
    flagging (joined (joined (present_flags location) (count_flags lines None)) (times_flags times (plain_number times))) scope next
repeating_lines control scope location times lines (Some count) next = repeating control scope location times (Counted count) next

abbrev pub repeating_counted : Control → Scope → Location → ValueNow → Expression → (Scope → Part) → Part
repeating_counted control scope location times lines next =
    now_here control lines (λ value. repeating_lines control scope location times value (body_count value) next)

-- lines of a number, or up to ENDD
abbrev pub repeating_by : Control → Scope → Location → ValueNow → Option Expression → (Scope → Part) → Part
repeating_by control scope location times None next = repeating control scope location times (ToEndd 0) next
repeating_by control scope location times (Some lines) next = repeating_counted control scope location times lines next

abbrev pub dup : Control → Scope → Location → Repetition → (Scope → Part) → Part
dup control scope location repetition next = now_here control repetition.count (λ times. repeating_by control scope location times repetition.lines next)
