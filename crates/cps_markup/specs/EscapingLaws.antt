-- No text is markup: what is written of a text has no character that begins or ends markup, and the text can be read back.
use Prim.Native.Char.{code}
use Rattle.std.specs.Prelude.{◌≡◌, ℕ, Bool, true, not, ◌==◌, List, [], ◌∷◌, ◌++◌, codes, if◌then◌else◌}
use Rattle.std.specs.List.{list_all}
use Rattle.std.specs.Cmp.Lexicographic.{pointwise}
use Rattle.cps_text.specs.Text.{among}
use Rattle.cps_markup.specs.Markup.{escaped}

-- a character that begins and ends neither an element nor a value
abbrev pub is_harmless : ℕ → Bool
is_harmless character = not (among (codes "<>\"") character)

abbrev pub NoTextIsMarkup : Type 0
NoTextIsMarkup = (text : List ℕ) → list_all is_harmless (escaped text) ≡ true

-- the character that a name between `&` and `;` means
abbrev pub named : List ℕ → ℕ
named name =
    if pointwise ◌==◌ name (codes "&lt") then code "<"
    else if pointwise ◌==◌ name (codes "&gt") then code ">"
    else if pointwise ◌==◌ name (codes "&quot") then code "\""
    else code "&"

-- a text as it is read back, where so much of a name is read
abbrev pub read_back : List ℕ → List ℕ → List ℕ
read_back name [] = []
read_back [] (c ∷ text) = if c == code "&" then read_back (c ∷ []) text else c ∷ read_back [] text
read_back (n ∷ name) (c ∷ text) = if c == code ";" then named (n ∷ name) ∷ read_back [] text else read_back (n ∷ name ++ c ∷ []) text

abbrev pub TextIsReadBack : Type 0
TextIsReadBack = (text : List ℕ) → read_back [] (escaped text) ≡ text
