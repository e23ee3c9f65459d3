-- What is wrong in a line. Columns are bytes, and count from 1. Our own.
use Rattle.std.specs.Prelude.{◌≡◌, ℕ, ◌+◌, ◌-◌, ◌<◌, ◌≤◌, ◌⊎◌, true, false, ◌&&◌, ◌==◌, List, [], ◌∷◌, ◌++◌, length, take, drop, map, slice_index, Option, None, Some, if◌then◌else◌}
use Rattle.bstr.specs.Utf8.{Decoded, decoded}
use Rattle.cps_text.specs.Line.{all_accepted, is_accepted_byte, longest_line}
use Rattle.cps_input.specs.declared.character_fault.CharacterFault.{CharacterFault}
use Rattle.cps_input.specs.declared.character_fault.Misfit.{Misfit}
use Rattle.cps_input.specs.declared.character_fault.Misfit.TheVariants.{Character, Byte, ByteOrderMark, Excess, More}

-- the byte in a column, and what begins there: a character of UTF-8, or bytes that are none
abbrev pub byte_in : List ℕ → ℕ → ℕ
byte_in line column = slice_index line (column - 1)

abbrev pub piece_in : List ℕ → ℕ → Decoded
piece_in line column = decoded (drop (column - 1) line)

-- what is told of that, in a line of a number: U+FEFF at the front of the first line is a mark
abbrev pub misfit_of : ℕ → ℕ → ℕ → Option ℕ → Misfit
misfit_of number column byte None = Byte byte
misfit_of number column byte (Some c) = if (number == 1 && column == 1) && c == 0xFEFF then ByteOrderMark else Character c

-- a character that no line has, or bytes that are no UTF-8
pub record IsStranger (number : ℕ) (line : List ℕ) (fault : CharacterFault) : Type 0 where
  pub first : 1 ≤ fault.first
  pub stranger : is_accepted_byte (byte_in line fault.first) ≡ false
  pub last : fault.last + 1 ≡ fault.first + (piece_in line fault.first).size
  pub order : fault.first ≤ fault.last
  pub misfit : fault.misfit ≡ misfit_of number fault.first (byte_in line fault.first) (piece_in line fault.first).char

-- all from a column on, which no line has
pub record IsExcess (line : List ℕ) (fault : CharacterFault) : Type 0 where
  pub first : longest_line < fault.first
  pub order : fault.first ≤ fault.last
  pub last : fault.last ≡ length line
  pub misfit : fault.misfit ≡ Excess

-- nothing is wrong behind one column and up to another
pub record IsClean (line : List ℕ) (from to : ℕ) : Type 0 where
  pub order : from ≤ to
  pub accepted : all_accepted (drop from (take to line)) ≡ true
  pub short : from < to → to ≤ longest_line

-- faults are all that is wrong behind one column and up to another
abbrev pub AreAll : ℕ → List ℕ → ℕ → List CharacterFault → ℕ → Type 0
AreAll number line from [] to = IsClean line from to
AreAll number line from (fault ∷ faults) to =
    IsClean line from (fault.first - 1) × (IsStranger number line fault ⊎ IsExcess line fault) × AreAll number line fault.last faults to

-- the most faults of a line that are told; of more, the next one tells how many there are
abbrev pub most_faults : ℕ
most_faults = 10

abbrev pub with_more : ℕ → CharacterFault → CharacterFault
with_more count fault = record fault { misfit = More count }

abbrev pub told : List CharacterFault → List CharacterFault
told faults = take most_faults faults ++ map (with_more (length faults - most_faults)) (take 1 (drop most_faults faults))

-- faults tell what is wrong in a line of a number
pub record AreFaults (number : ℕ) (line : List ℕ) (faults : List CharacterFault) : Type 0 where
  pub all : List CharacterFault
  pub whole : AreAll number line 0 all (length line)
  pub some : faults ≡ told all

-- columns of a line
pub record AreColumns (line : List ℕ) (fault : CharacterFault) : Type 0 where
  pub first : 1 ≤ fault.first
  pub order : fault.first ≤ fault.last
  pub last : fault.last ≤ length line
