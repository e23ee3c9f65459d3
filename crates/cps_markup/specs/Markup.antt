-- Markup as it is written: HTML that is XML too. From HTML's rules for text, elements and attributes.
use Prim.Native.Char.{code}
use Rattle.std.specs.Prelude.{ℕ, Bool, true, false, ◌==◌, List, [], ◌∷◌, ◌++◌, flat_map, codes, decimal, if◌then◌else◌}
use Rattle.cps_markup.specs.declared.attribute.Attribute.{Attribute as CodeAttribute}
use Rattle.cps_markup.specs.declared.attribute.Attribute.TheVariants as made
use Rattle.cps_markup.specs.declared.place.Place.{Place}
use Rattle.cps_markup.specs.declared.style.Style.{Style}
use Rattle.cps_markup.specs.declared.tag.Tag.{Tag}
use Rattle.cps_markup.specs.declared.tag.Tag.TheVariants as tag
use Rattle.cps_markup.specs.Places.{place_text, style_name}

-- ---- what markup is

-- an element is a place, or leads to one; it has a style, or a text that explains it; or it is unfolded at first; or it is shifted by so many digits, or
-- has so many rows
pub data Attribute : Type 0 where
  identifier : Place → Attribute
  target : Place → Attribute
  styled : Style → Attribute
  titled : List ℕ → Attribute
  unfolded : Attribute
  shifted : ℕ → Attribute
  counted : ℕ → Attribute

-- an attribute of the code
abbrev pub attribute_of : CodeAttribute → Attribute
attribute_of (made.Identifier place) = identifier place
attribute_of (made.Styled style) = styled style
attribute_of (made.Titled words) = titled words.now
attribute_of made.Unfolded = unfolded
attribute_of (made.Counted rows) = counted rows

-- text, and what is behind it; an element with what is inside of it, and what is behind it
pub data Markup : Type 0 where
  nothing : Markup
  says : List ℕ → Markup → Markup
  element : Tag → List Attribute → Markup → Markup → Markup

-- ---- how it is written

-- those characters that begin or end markup are written by name
abbrev pub character_text : ℕ → List ℕ
character_text character =
    if character == code "&" then codes "&amp;"
    else if character == code "<" then codes "&lt;"
    else if character == code ">" then codes "&gt;"
    else if character == code "\"" then codes "&quot;"
    else character ∷ []

abbrev pub escaped : List ℕ → List ℕ
escaped text = flat_map character_text text

abbrev pub tag_name : Tag → List ℕ
tag_name tag.Section = codes "section"
tag_name tag.Heading = codes "h2"
tag_name tag.Row = codes "div"
tag_name tag.Part = codes "i"
tag_name tag.Link = codes "a"
tag_name tag.Note = codes "small"
tag_name tag.Front = codes "span"
tag_name tag.Fold = codes "details"
tag_name tag.Summary = codes "summary"

abbrev pub attribute_name : Attribute → List ℕ
attribute_name (identifier place) = codes " id=\""
attribute_name (target place) = codes " href=\"#"
attribute_name (styled style) = codes " class=\""
attribute_name (titled words) = codes " title=\""
attribute_name unfolded = codes " open=\""
attribute_name (shifted digits) = codes " class=\"s"
attribute_name (counted rows) = codes " style=\"--n:"

abbrev pub attribute_value : Attribute → List ℕ
attribute_value (identifier place) = place_text place
attribute_value (target place) = place_text place
attribute_value (styled style) = style_name style
attribute_value (titled words) = words
attribute_value unfolded = []
attribute_value (shifted digits) = decimal digits
attribute_value (counted rows) = decimal rows

-- a value is quoted
abbrev pub attribute_text : Attribute → List ℕ
attribute_text attribute = attribute_name attribute ++ escaped (attribute_value attribute) ++ codes "\""

abbrev pub opening : Tag → List Attribute → List ℕ
opening tag attributes = codes "<" ++ tag_name tag ++ flat_map attribute_text attributes ++ codes ">"

abbrev pub closing : Tag → List ℕ
closing tag = codes "</" ++ tag_name tag ++ codes ">"

abbrev pub written : Markup → List ℕ
written nothing = []
written (says words behind) = escaped words ++ written behind
written (element tag attributes inside behind) = opening tag attributes ++ written inside ++ closing tag ++ written behind

-- ---- what it says, where it can be led to, and where it leads

-- what stands beside a text is in notes
abbrev pub is_note : Tag → Bool
is_note tag.Heading = true
is_note tag.Note = true
is_note tag.Section = false
is_note tag.Row = false
is_note tag.Part = false
is_note tag.Link = false
is_note tag.Front = false
is_note tag.Fold = false
is_note tag.Summary = false

-- the text outside of notes
abbrev pub said : Markup → List ℕ
said nothing = []
said (says words behind) = words ++ said behind
said (element tag attributes inside behind) = (if is_note tag then [] else said inside) ++ said behind

abbrev pub identified : Attribute → List Place
identified (identifier place) = place ∷ []
identified _ = []

-- the places that have an identifier
abbrev pub places : Markup → List Place
places nothing = []
places (says words behind) = places behind
places (element tag attributes inside behind) = flat_map identified attributes ++ places inside ++ places behind

-- a place that is led to, and the text that leads there
pub record Link : Type 0 where
  pub place : Place
  pub words : List ℕ

abbrev pub targeted : List ℕ → Attribute → List Link
targeted words (target place) = record { place = place; words = words } ∷ []
targeted words _ = []

abbrev pub links : Markup → List Link
links nothing = []
links (says words behind) = links behind
links (element tag attributes inside behind) = flat_map (targeted (said inside)) attributes ++ links inside ++ links behind
