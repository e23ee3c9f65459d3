-- Display code. From the manual's table of character sets: 64 codes, from 0 on in this order.
use Rattle.std.specs.Prelude.{ℕ, Bool, ◌==◌, List, codes, Option, is_some}
use Rattle.std.specs.List.{position}
use Rattle.cps_text.specs.Text.{capital}

-- the characters in the order of their codes
unfoldable pub display_characters : List ℕ
display_characters = codes ":ABCDEFGHIJKLMNOPQRSTUVWXYZ0123456789+-*/()$= ,.#[]%\"_!&'?<>@\\^;"

-- the code of a character is its place in that list; a lower-case letter has its capital's
abbrev pub display_of : ℕ → Option ℕ
display_of character = position (λ c. c == capital character) display_characters

abbrev pub has_display : ℕ → Bool
has_display character = is_some (display_of character)
