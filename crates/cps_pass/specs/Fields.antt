-- VFD: fields of any width, from any bit on. From the manual's description of VFD; the flag for a width is our profile's.
use Rattle.std.specs.Prelude.{ℕ, Bool, true, false, nat_lt, List, [], ◌∷◌, Option, None, Some, if◌then◌else◌}
use Rattle.std.specs.List.{list_all}
use Rattle.cps_expr.specs.declared.pseudo.Field.{Field}
use Rattle.cps_expr.specs.declared.value.Value.{Value as AValue}
use Rattle.cps_expr.specs.Expression.{Expression}
use Rattle.cps_state.specs.declared.flags.Flags.{Flags}
use Rattle.cps_state.specs.declared.key.Control.{Control}
use Rattle.cps_state.specs.declared.made.Content.{Content}
use Rattle.cps_state.specs.declared.made.Content.TheVariants as content
use Rattle.cps_state.specs.Course.{Part}
use Rattle.cps_state.specs.Flags.{joined}
use Rattle.cps_state.specs.Made.{no_flags, field_hole, width_of}
use Rattle.cps_pass.specs.declared.placing.Site.{Site}
use Rattle.cps_pass.specs.declared.reading.Location.{Location}
use Rattle.cps_pass.specs.declared.value_now.ValueNow.{ValueNow}
use Rattle.cps_pass.specs.declared.value_now.ValueNow.TheVariants.{Undefined, NoValue, Known}
use Rattle.cps_pass.specs.Numbers.{plain_number, between}
use Rattle.cps_pass.specs.Places.{here_at}
use Rattle.cps_pass.specs.Placing.{asking_site, start_for, placing_flags, unread_from, unplaced, placed}
use Rattle.cps_pass.specs.ValueNow.{now}

-- ---- a field and the value of its width

-- a width is a number from 1 to 60
abbrev pub width_in : ValueNow → Option ℕ
width_in value = between 1 60 (plain_number value)

-- None: the width is none
abbrev pub field_with : Expression → Option ℕ → Content
field_with value None = content.Unsized (field_hole 0 value)
field_with value (Some width) = content.Value (field_hole width value)

-- U for an undefined name, A where there is no value, V for another value
abbrev pub width_flags : ValueNow → Option ℕ → Flags
width_flags Undefined width = record no_flags { undefined = true }
width_flags NoValue width = record no_flags { operand = true }
width_flags (Known value) None = record no_flags { width = true }
width_flags (Known value) (Some width) = no_flags

-- ---- all fields

-- fields as contents, and the flags of their widths
pub record Sized : Type 0 where
  pub contents : List Content
  pub flags : Flags

abbrev pub no_fields_sized : Sized
no_fields_sized = record { contents = []; flags = no_flags }

abbrev pub with_field : Expression → ValueNow → Sized → Sized
with_field value width sized = record {
  contents = field_with value (width_in width) ∷ sized.contents;
  flags = joined (width_flags width (width_in width)) sized.flags;
}

-- asking the values of the widths, in their order
abbrev pub sizing : List Field → AValue → (Sized → Part) → Part
sizing [] here next = next no_fields_sized
sizing (field ∷ fields) here next = now field.width here (λ width. sizing fields here (λ sized. next (with_field field.value width sized)))

abbrev pub are_sized : List Content → Bool
are_sized contents = list_all (λ content. nat_lt 0 (width_of content)) contents

-- nothing is made where a width is none
abbrev pub placing_fields : Site → Sized → Part
placing_fields site sized =
    if are_sized sized.contents then placed site (start_for site 0) sized.contents false
    else unplaced (joined (placing_flags site) sized.flags) site (start_for site 0) sized.contents

-- `*` is the address of the word in which the first field begins
abbrev pub fields_in : List Field → Site → Part
fields_in fields site = sizing fields (here_at site.block (start_for site 0)) (placing_fields site)

abbrev pub vfd : Control → Location → List Field → Part
vfd control location fields = asking_site control location (fields_in fields)

-- with unreadable operands
abbrev pub unread_fields_at : Site → Part
unread_fields_at site = unread_from site (start_for site 0)

abbrev pub unread_vfd : Control → Location → Part
unread_vfd control location = asking_site control location unread_fields_at
