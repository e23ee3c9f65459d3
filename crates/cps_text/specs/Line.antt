-- Lines of a source. Our own: the characters of the display code, and lower-case letters.
use Prim.Native.Char.{code}
use Rattle.std.specs.Prelude.{◌≡◌, ℕ, ◌≤◌, Bool, false, ◌&&◌, ◌||◌, ◌==◌, not, nat_le, IsTrue, List, length, codes}
use Rattle.std.specs.List.{list_all}
use Rattle.cps_text.specs.Text.{among}

-- the five characters from blank to tilde that no line has
abbrev pub is_left_out : ℕ → Bool
is_left_out = among (codes "`{|}~")

-- a character is one that a line may have: from blank to tilde, and none of those five
abbrev pub is_accepted_byte : ℕ → Bool
is_accepted_byte byte = nat_le (code " ") byte && (nat_le byte (code "~") && not (is_left_out byte))

-- each character is one that a line may have
abbrev pub all_accepted : List ℕ → Bool
all_accepted text = list_all is_accepted_byte text

-- the most characters that a line has
abbrev pub longest_line : ℕ
longest_line = 90

-- a line of a source
pub record IsLine (text : List ℕ) : Type 0 where
  pub short : length text ≤ longest_line
  pub accepted : IsTrue (all_accepted text)

-- a text that is short enough for a line has a character that no line may have
pub record HasBadCharacter (text : List ℕ) : Type 0 where
  pub short : length text ≤ longest_line
  pub bad : all_accepted text ≡ false

-- ---- statements: lines that may have `~` too, which generated names begin with; no source has them, expansions do

abbrev pub is_stated_byte : ℕ → Bool
is_stated_byte byte = is_accepted_byte byte || byte == code "~"

abbrev pub all_stated : List ℕ → Bool
all_stated text = list_all is_stated_byte text

pub record IsStatement (text : List ℕ) : Type 0 where
  pub short : length text ≤ longest_line
  pub stated : IsTrue (all_stated text)

-- a text that is short enough for a statement has a character that no statement may have
pub record HasBadStatement (text : List ℕ) : Type 0 where
  pub short : length text ≤ longest_line
  pub bad : all_stated text ≡ false
