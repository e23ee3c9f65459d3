-- For the code of a page, not part of what a reader believes: markup in the making.
use Rattle.std.specs.Prelude.{◌≡◌, ℕ, Bool, List, [], ◌∷◌, ◌++◌, All, if◌then◌else◌}
use Rattle.cps_markup.specs.declared.style.Style.TheVariants.{Block, Flagged}
use Rattle.cps_markup.specs.declared.place.Place.{Place}
use Rattle.cps_markup.specs.declared.tag.Tag.{Tag}
use Rattle.cps_markup.specs.declared.tag.Tag.TheVariants.{Row, Summary}
use Rattle.cps_markup.specs.Markup.{Attribute, styled, unfolded, Markup, Link, written, said, places, links}

-- a page has markup more, which says a text and has these places, and whose links are good
pub record Adds (IsGood : Link → Type 0) (words : List ℕ) (here : List Place) (old new : List ℕ) : Type 0 where
  pub markup : Markup
  pub whole : new ≡ old ++ written markup
  pub same_words : said markup ≡ words
  pub same_places : places markup ≡ here
  pub good : All IsGood (links markup)

-- the element of a row
abbrev pub row_tag : Bool → Tag
row_tag is_summary = if is_summary then Summary else Row

-- what the element of a row has
abbrev pub row_attributes : Bool → List Attribute
row_attributes is_flagged = if is_flagged then styled Flagged ∷ [] else []

-- what the element of what stands before the source has
abbrev pub front_attributes : Bool → List Attribute
front_attributes is_in_block = if is_in_block then styled Block ∷ [] else []

-- what the element of folded rows has
abbrev pub fold_attributes : Bool → List Attribute
fold_attributes is_unfolded = if is_unfolded then unfolded ∷ [] else []
