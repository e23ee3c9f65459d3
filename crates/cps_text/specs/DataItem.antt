-- Data items of characters: the rule. `ItemInFront.antt` computes the same. From the manual's section on character data; the limits are our profile's.
use Rattle.std.specs.Prelude.{◌≡◌, ◌⊎◌, ℕ, ◌≤◌, ◌<◌, Bool, IsTrue, not, ◌&&◌, ◌||◌, ◌==◌, List, [], ◌∷◌, ◌++◌, length, codes, Option, None, Some, if◌then◌else◌}
use Rattle.std.specs.List.{list_all}
use Rattle.cps_text.specs.declared.data_item.Side.{Side}
use Rattle.cps_text.specs.declared.data_item.Side.TheVariants.{Left, Right, LeftWithBlanks}
use Rattle.cps_text.specs.Digits.{digits_number}
use Rattle.cps_text.specs.Display.{has_display}
use Rattle.cps_text.specs.Text.{among, capital, is_digit, is_letter}

-- the most characters of an item for the central processor, and for a peripheral one
abbrev pub cp_characters : ℕ
cp_characters = 10

abbrev pub pp_characters : ℕ
pp_characters = 2

-- an item: the side of the word, how many characters it stands for, those that are there, and the text behind the item
pub record ItemParts : Type 0 where
  pub side : Side
  pub count : ℕ
  pub characters : List ℕ
  pub rest : List ℕ

-- the side that a letter names, in capitals or not
abbrev pub side_named : ℕ → Option Side
side_named letter =
    if among (codes "L") (capital letter) then Some Left
    else (if among (codes "R") (capital letter) then Some Right
    else (if among (codes "H") (capital letter) then Some LeftWithBlanks else None))

-- a count, the side's letter, and so many characters, fewer only where the text ends; blanks stand for those past its end
pub record IsCounted (text : List ℕ) (item : ItemParts) : Type 0 where
  pub digits : List ℕ
  pub letter : ℕ
  pub parts : text ≡ digits ++ letter ∷ (item.characters ++ item.rest)
  pub decimal : IsTrue (list_all (is_digit 10) digits)
  pub count : digits_number 10 digits ≡ item.count
  pub side : side_named letter ≡ Some item.side
  pub characters : length item.characters ≤ item.count
  pub fewer : length item.characters < item.count → item.rest ≡ []

-- what may stand before and behind the characters: no letter, digit, blank or comma
abbrev pub is_delimiter : ℕ → Bool
is_delimiter character = has_display character && not (is_letter (capital character) || (is_digit 10 character || among (codes " ,") character))

-- the side's letter, a delimiter, characters of which none is the delimiter, and the delimiter again
pub record IsDelimited (text : List ℕ) (item : ItemParts) : Type 0 where
  pub letter : ℕ
  pub delimiter : ℕ
  pub parts : text ≡ letter ∷ delimiter ∷ (item.characters ++ delimiter ∷ item.rest)
  pub side : side_named letter ≡ Some item.side
  pub delimits : IsTrue (is_delimiter delimiter)
  pub between : IsTrue (list_all (λ c. not (c == delimiter)) item.characters)
  pub count : item.count ≡ length item.characters

-- a text begins with an item that has one character or more, and at most so many; each has a display code
pub record BeginsWithItem (most : ℕ) (text : List ℕ) (item : ItemParts) : Type 0 where
  pub written : IsCounted text item ⊎ IsDelimited text item
  pub some : 1 ≤ item.count
  pub few : item.count ≤ most
  pub displayed : IsTrue (list_all has_display item.characters)
