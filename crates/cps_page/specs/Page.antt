-- An assembled source as a page: its four texts, marked up. Our own.
use Rattle.std.specs.Prelude.{◌≡◌, ℕ, ◌≤◌, IsTrue, List, [], ◌∷◌, ◌++◌, All, codes, count_by, Option, None, Some}
use Rattle.std.specs.List.{list_any}
use Rattle.cps_text.specs.declared.name.Name.{Name}
use Rattle.cps_text.specs.Name.{name_of, name_text}
use Rattle.cps_list.specs.Assembly.{Assembly}
use Rattle.cps_list.specs.Binary.{binary_text}
use Rattle.cps_list.specs.Flagged.{flags_text}
use Rattle.cps_list.specs.ListingText.{listing_text}
use Rattle.cps_list.specs.declared.mention.Mention.{Mention}
use Rattle.cps_list.specs.Symbols.{defining_line, mentions_from, mentions_of, symbols_text}
use Rattle.cps_page.specs.declared.frame.TheConstants.{FRONT, MIDDLE, BACK}
use Rattle.cps_markup.specs.declared.place.Place.{Place}
use Rattle.cps_markup.specs.declared.place.Place.TheVariants.{Line, Section}
use Rattle.cps_markup.specs.declared.place.PageSection.{PageSection}
use Rattle.cps_markup.specs.declared.place.PageSection.TheVariants as page
use Rattle.cps_markup.specs.declared.tag.Tag.TheVariants as tag
use Rattle.cps_markup.specs.Markup.{identifier, Markup, nothing, element, Link, escaped, written, said, places, links}
use Rattle.cps_markup.specs.Places.{same_place}
use Rattle.cps_markup.specs.PlaceLaws.{IsWritten}

-- ---- sections

-- a section, and what is behind it
abbrev pub section : PageSection → Markup → Markup → Markup
section which inside behind = element tag.Section (identifier (Section which) ∷ []) inside behind

-- what stands inside of the four sections of the texts, of the one before them, and of the one behind them
pub record Sections : Type 0 where
  pub memory : Markup
  pub listing : Markup
  pub words : Markup
  pub symbols : Markup
  pub flags : Markup
  pub instructions : Markup

abbrev pub body : Sections → Markup
body sections =
    section page.Memory sections.memory
    (section page.Listing sections.listing
    (section page.Words sections.words
    (section page.Symbols sections.symbols (section page.Flags sections.flags (section page.Instructions sections.instructions nothing)))))

-- ---- links

-- a link whose text is a symbol leads to no line but the one that first defines it
abbrev pub LeadsHome : List Mention → Link → Type 0
LeadsHome mentions link = (name : Name) (number : ℕ) → name_of link.words ≡ Some name → link.place ≡ Line number
    → number ≡ defining_line (mentions_of name mentions)

-- ---- the page

-- the program's name, if it has one
abbrev pub title_text : Option Name → List ℕ
title_text None = codes "COMPASS listing"
title_text (Some name) = name_text name

-- Between a front, a middle and a back, which have nothing of the source, the title, and the four texts as markup. What stands beside these is in
-- notes. No place comes twice, identifiers of two places differ, and each link leads to a place.
pub record IsPage (front middle back : List ℕ) (assembly : Assembly) (written_page : List ℕ) : Type 0 where
  pub sections : Sections
  pub whole : written_page ≡ front ++ escaped (title_text assembly.finals.program) ++ middle ++ written (body sections) ++ back
  pub memory : said sections.memory ≡ []
  pub listing : said sections.listing ≡ listing_text assembly
  pub words : said sections.words ≡ binary_text assembly
  pub symbols : said sections.symbols ≡ symbols_text assembly
  pub flags : said sections.flags ≡ flags_text assembly
  pub instructions : said sections.instructions ≡ []
  pub once : (place : Place) → count_by (same_place place) (places (body sections)) ≤ 1
  pub differ : All IsWritten (places (body sections))
  pub alive : All (λ link. IsTrue (list_any (same_place link.place) (places (body sections)))) (links (body sections))
  pub home : All (LeadsHome (mentions_from 1 assembly.outcomes)) (links (body sections))

-- what stands in front of the titles of all pages, between these and the sections, and behind the sections
unfoldable pub front : List ℕ
front = FRONT.now

unfoldable pub middle : List ℕ
middle = MIDDLE.now

unfoldable pub back : List ℕ
back = BACK.now

abbrev pub IsPageOf : Assembly → List ℕ → Type 0
IsPageOf assembly text = IsPage front middle back assembly text
