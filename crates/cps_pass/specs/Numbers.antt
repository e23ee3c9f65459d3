-- Numbers that the operand of a statement gives in pass one. From the manual's section on expressions; which values are none is our profile's.
use Rattle.std.specs.Prelude.{ℕ, true, ◌&&◌, nat_le, pos, negsuc, ℤ, Option, None, Some, if◌then◌else◌}
use Rattle.cps_text.specs.declared.name.Name.{Name}
use Rattle.cps_state.specs.declared.flags.Flags.{Flags}
use Rattle.cps_pass.specs.declared.placing.Site.{Site}
use Rattle.cps_pass.specs.declared.value_now.ValueNow.{ValueNow}
use Rattle.cps_pass.specs.declared.value_now.ValueNow.TheVariants.{Undefined, NoValue, Known}
use Rattle.cps_pass.specs.Placing.{placing_flags, unread_flags}

-- no number below 0
abbrev pub not_negative : ℤ → Option ℕ
not_negative (pos number) = Some number
not_negative (negsuc n) = None

-- none in a block
abbrev pub plain_in : Option Name → ℤ → Option ℕ
plain_in None offset = not_negative offset
plain_in (Some block) offset = None

abbrev pub plain_number : ValueNow → Option ℕ
plain_number Undefined = None
plain_number NoValue = None
plain_number (Known value) = plain_in value.block value.offset

-- a number from one to another
abbrev pub between : ℕ → ℕ → Option ℕ → Option ℕ
between least most None = None
between least most (Some number) = if nat_le least number && nat_le number most then Some number else None

-- the flags of a value that is no number that the statement takes: U for an undefined name, else A
abbrev pub no_number_flags : Site → ValueNow → Flags
no_number_flags site Undefined = record (placing_flags site) { undefined = true }
no_number_flags site NoValue = unread_flags site
no_number_flags site (Known value) = unread_flags site
