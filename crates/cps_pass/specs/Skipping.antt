-- Lines that are skipped. From the manual's descriptions of IF, ELSE and ENDIF.
use Rattle.std.specs.Prelude.{ℕ, ◌+◌, ◌-◌, ◌^◌, true, nat_lt, nat_eq, None, if◌then◌else◌}
use Rattle.cps_state.specs.declared.key.Mode.TheVariants.{Normal, SkipLines, SkipRange}
use Rattle.cps_state.specs.declared.key.Skip.{Skip}
use Rattle.cps_state.specs.Made.{no_flags}
use Rattle.cps_pass.specs.declared.reading.Location.{Location}
use Rattle.cps_pass.specs.Located.{present_flags}
use Rattle.cps_pass.specs.declared.seen.Seen.{Seen}
use Rattle.cps_pass.specs.declared.seen.Seen.TheVariants.{Begins, Else, Endif}
use Rattle.cps_pass.specs.declared.treatment.Treatment.{Treatment}
use Rattle.cps_pass.specs.declared.treatment.Treatment.TheVariants.{Passes, Resumes}

-- lines of a number: one fewer is left; after the last one lines are assembled
abbrev pub skipped_line : ℕ → Treatment
skipped_line count = Passes (if nat_lt 1 count then SkipLines (count - 1) else Normal) None no_flags

-- how many ranges can be open in another; the count stays at its greatest
abbrev pub most_nested : ℕ
most_nested = 2 ^ 32 - 1

abbrev pub deeper : ℕ → ℕ
deeper nested = if nat_lt nested most_nested then nested + 1 else nested

-- in a range so many others are open
abbrev pub nesting : Skip → ℕ → Treatment
nesting skip nested = Passes (SkipRange (record skip { nested = nested })) None no_flags

-- its own ELSE takes up assembly; E where that is not the first
abbrev pub own_else : Skip → Location → Treatment
own_else skip location =
    if skip.may_resume then Resumes location else Passes (SkipRange skip) None (record (present_flags location) { structure = true })

-- a range: those that begin and end in it are counted
abbrev pub skipped_in_range : Skip → Seen → Treatment
skipped_in_range skip Begins = nesting skip (deeper skip.nested)
skipped_in_range skip (Else location) = if nat_eq skip.nested 0 then own_else skip location else nesting skip skip.nested
skipped_in_range skip (Endif location) = if nat_eq skip.nested 0 then Passes Normal None (present_flags location) else nesting skip (skip.nested - 1)
skipped_in_range skip _ = nesting skip skip.nested
