-- Names of instructions. Our own.
use Prim.Native.Char.{code}
use Rattle.std.specs.Prelude.{ℕ, List, ◌++◌, map, codes, if◌then◌else◌}
use Rattle.cps_text.specs.Text.{capital, is_digit}
use Rattle.cps_code.specs.Table.{is_operation}

-- a word with the digit of a register, 0 where it isn't written: `SA` stands for `SA0`
abbrev pub full_name : List ℕ → List ℕ
full_name word = if is_operation word then word else word ++ codes "0"

-- a name as the table has it: in capitals, and with i for the digit of a register
abbrev pub row_character : ℕ → ℕ
row_character character = if is_digit 8 character then code "i" else capital character

abbrev pub row_name : List ℕ → List ℕ
row_name name = map row_character name
