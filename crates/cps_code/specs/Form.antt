-- A form: the code of an instruction, with holes for the values that are known later, and how values fill them.
-- From the machines' reference manuals (the formats of 15 and 30 bits, and of 12 and 24) and the manual's rule for values; what doesn't fit is our profile's.
use Rattle.std.specs.Prelude.{◌≡◌, ◌⊎◌, ℕ, ◌+◌, ◌-◌, ◌*◌, ◌%◌, ◌^◌, ◌<◌, ◌≤◌, Bool, true, false, ◌||◌, not, nat_lt, ◌&&◌, List, [], ◌∷◌, length, All, ℤ, pos, negsuc, if◌then◌else◌}
use Rattle.cps_expr.specs.declared.machine.Machine.TheVariants.{Cp}
use Rattle.cps_code.specs.Bits.{word_bits, parcel_bits}
use Rattle.cps_code.specs.Operand.{IsOperand}
use Rattle.cps_code.specs.declared.hole.Hole.{Hole}
use Rattle.cps_code.specs.declared.hole.HoleKind.{HoleKind}
use Rattle.cps_code.specs.declared.hole.HoleKind.TheVariants.{Value, Count, Target}
use Rattle.cps_code.specs.declared.filled.Filled.{Filled}

pub record Form : Type 0 where
  pub bits : ℕ
  pub code : ℕ
  pub holes : List Hole
  pub forces_after : Bool

-- ---- values in holes

-- whether a value fits a width: from -(2 ^ (width - 1) - 1) to 2 ^ width - 1
abbrev pub fits_width : ℕ → ℤ → Bool
fits_width width (pos n) = nat_lt n (2 ^ width)
fits_width width (negsuc n) = nat_lt (n + 1) (2 ^ (width - 1))

-- a value in ones' complement, and 0 for one below its range; `negsuc n` is -(n + 1)
abbrev pub complemented : ℕ → ℤ → ℕ
complemented width (pos n) = n
complemented width (negsuc n) = 2 ^ width - 1 - (n + 1)

-- what is put: the value in ones' complement, and of one that doesn't fit the low bits of that in 60 bits
abbrev pub put_value : ℕ → ℤ → ℕ
put_value width value = if fits_width width value then complemented width value else complemented word_bits value % 2 ^ width

-- below 0
abbrev pub is_negative : ℤ → Bool
is_negative (pos n) = false
is_negative (negsuc n) = true

-- whether a distance fits a width: between -(2 ^ (width - 1) - 1) and 2 ^ (width - 1) - 1
abbrev pub is_distance : ℕ → ℤ → Bool
is_distance width (pos n) = nat_lt n (2 ^ (width - 1))
is_distance width (negsuc n) = nat_lt (n + 1) (2 ^ (width - 1))

-- a hole of each kind with a value: a count below 0, and a target that is too far, are put as 0
abbrev pub put_in : HoleKind → ℕ → ℤ → ℕ
put_in Value width value = put_value width value
put_in Count width value = if is_negative value then 0 else put_value width value
put_in Target width distance = if is_distance width distance then complemented width distance else 0

-- whether the value is cut
abbrev pub is_cut_in : HoleKind → ℕ → ℤ → Bool
is_cut_in Value width value = not (fits_width width value)
is_cut_in Count width value = not (is_negative value) && not (fits_width width value)
is_cut_in Target width distance = false

-- whether it is none that the hole can hold
abbrev pub is_out_in : HoleKind → ℕ → ℤ → Bool
is_out_in Value width value = false
is_out_in Count width value = is_negative value
is_out_in Target width distance = not (is_distance width distance)

-- what values add to a code of so many bits, each in its hole
abbrev pub put_values : ℕ → List Hole → List ℤ → ℕ
put_values bits [] values = 0
put_values bits (hole ∷ holes) [] = 0
put_values bits (hole ∷ holes) (value ∷ values) =
    put_in hole.kind hole.width value * 2 ^ (bits - hole.first - hole.width) + put_values bits holes values

-- whether some value is cut
abbrev pub is_cut : List Hole → List ℤ → Bool
is_cut [] values = false
is_cut (hole ∷ holes) [] = false
is_cut (hole ∷ holes) (value ∷ values) = is_cut_in hole.kind hole.width value || is_cut holes values

-- whether some value is none that its hole can hold
abbrev pub is_out : List Hole → List ℤ → Bool
is_out [] values = false
is_out (hole ∷ holes) [] = false
is_out (hole ∷ holes) (value ∷ values) = is_out_in hole.kind hole.width value || is_out holes values

-- a form with values in its holes
abbrev pub filled : Form → List ℤ → Filled
filled form values = record {
  digits = form.code + put_values form.bits form.holes values;
  is_truncated = is_cut form.holes values;
  is_out_of_range = is_out form.holes values;
}

-- ---- what each form keeps

-- the most that values can add
abbrev pub room_of : ℕ → List Hole → ℕ
room_of bits [] = 0
room_of bits (hole ∷ holes) = (2 ^ hole.width - 1) * 2 ^ (bits - hole.first - hole.width) + room_of bits holes

pub record IsHole (bits : ℕ) (hole : Hole) : Type 0 where
  pub some : 0 < hole.width
  pub inside : hole.first + hole.width ≤ bits

pub record IsForm (form : Form) : Type 0 where
  pub kind : (form.bits ≡ parcel_bits) ⊎ (form.bits ≡ 2 * parcel_bits)
  pub short : form.bits ≤ 2 * parcel_bits
  pub few : length form.holes ≤ 1
  pub holes : All (IsHole form.bits) form.holes
  pub operands : All (λ hole. IsOperand Cp hole.operand) form.holes
  pub room : form.code + room_of form.bits form.holes < 2 ^ form.bits
