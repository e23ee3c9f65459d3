-- Pass two: what the contents of a statement give, where everything that can be named has its final value: their numbers and the flags of their values.
-- From the manual's sections on the two passes, on SET and on literals; that a name that is never defined, and what has no value, count as 0 is our profile's.
use Rattle.std.specs.Prelude.{ℕ, Bool, false, ◌||◌, not, List, map, ℤ, pos, ◌-ℤ◌, Option, None, Some, is_none, unwrap_or}
use Rattle.std.specs.List.{list_any}
use Rattle.cps_text.specs.declared.name.Name.{Name}
use Rattle.cps_expr.specs.declared.value.Value.{Value}
use Rattle.cps_expr.specs.Expression.{Expression}
use Rattle.cps_expr.specs.Value.{Values, plain, value_in, has_undefined}
use Rattle.cps_code.specs.declared.hole.HoleKind.{HoleKind}
use Rattle.cps_code.specs.declared.hole.HoleKind.TheVariants as hole
use Rattle.cps_code.specs.declared.hole.Operand.{Operand}
use Rattle.cps_code.specs.declared.hole.Operand.TheVariants as operand
use Rattle.cps_code.specs.Form.{Form, filled, fits_width, put_value}
use Rattle.cps_state.specs.declared.flags.Flags.{Flags}
use Rattle.cps_state.specs.declared.made.Content.{Content}
use Rattle.cps_state.specs.declared.made.Content.TheVariants as content
use Rattle.cps_state.specs.Made.{no_flags}
pub use Rattle.cps_final.specs.Finals.{address_of}
pub use Rattle.cps_final.specs.Addresses.{Resolved, base_in, final_of, address_in, first_address}
pub use Rattle.cps_final.specs.Known.{values_in, literal_in, Known, known_in, PlacedStatement, placed_statement}

-- a value in a block is none: all final values are plain
abbrev pub offset_outside : Option Name → ℤ → Option ℤ
offset_outside None offset = Some offset
offset_outside (Some other) offset = None

abbrev pub plain_offset : Option Value → Option ℤ
plain_offset None = None
plain_offset (Some value) = offset_outside value.block value.offset

-- the value of an expression in which `*` is an address
abbrev pub value_at : Values → ℕ → Expression → Option ℤ
value_at symbols here terms = plain_offset (value_in symbols (plain (pos here)) terms)

-- one without a value counts as 0
abbrev pub number_at : Values → ℕ → Expression → ℤ
number_at symbols here terms = unwrap_or (value_at symbols here terms) (pos 0)

-- a literal stands for the address of its word
abbrev pub operand_number : Known → ℕ → Operand → ℤ
operand_number known here (operand.Expression terms) = number_at known.symbols here terms
operand_number known here (operand.Literal word) = pos (known.literals word)

-- a literal has a value always, and reads no symbol
abbrev pub is_valueless : Known → ℕ → Operand → Bool
is_valueless known here (operand.Expression terms) = is_none (value_at known.symbols here terms)
is_valueless known here (operand.Literal word) = false

abbrev pub reads_undefined : Known → Operand → Bool
reads_undefined known (operand.Expression terms) = has_undefined known.symbols terms
reads_undefined known (operand.Literal word) = false

-- the flags that its value gives
abbrev pub operand_flags : Known → ℕ → Operand → Flags
operand_flags known here x = record no_flags { operand = is_valueless known here x; undefined = reads_undefined known x }

-- what goes into a hole: the value, and for a target the distance from the instruction's own address
abbrev pub number_for : HoleKind → ℕ → ℤ → ℤ
number_for hole.Value here value = value
number_for hole.Count here value = value
number_for hole.Target here value = value -ℤ pos here

abbrev pub numbers_of : Known → ℕ → Form → List ℤ
numbers_of known here form = map (λ hole. number_for hole.kind here (operand_number known here hole.operand)) form.holes

abbrev pub form_number : Known → ℕ → Form → ℕ
form_number known here form = (filled form (numbers_of known here form)).digits

-- the flags that the values of an instruction give
abbrev pub form_flags : Known → ℕ → Form → Flags
form_flags known here form = record no_flags {
  operand = list_any (λ hole. is_valueless known here hole.operand) form.holes || (filled form (numbers_of known here form)).is_out_of_range;
  cut = (filled form (numbers_of known here form)).is_truncated;
  undefined = list_any (λ hole. reads_undefined known hole.operand) form.holes;
}

abbrev pub number_of : Known → ℕ → Content → ℕ
number_of known here (content.Instruction form) = form_number known here form
number_of known here (content.Value hole) = put_value hole.width (operand_number known here hole.operand)
number_of known here (content.Number width number) = number
number_of known here (content.Unsized hole) = 0

abbrev pub value_flags : Known → ℕ → Content → Flags
value_flags known here (content.Instruction form) = form_flags known here form
value_flags known here (content.Value hole) =
    record (operand_flags known here hole.operand) { cut = not (fits_width hole.width (operand_number known here hole.operand)) }
value_flags known here (content.Number width number) = no_flags
value_flags known here (content.Unsized hole) = operand_flags known here hole.operand
