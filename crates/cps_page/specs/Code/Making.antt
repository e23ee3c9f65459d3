-- For the code of a page, not part of what a reader believes: its parts in the making.
use Rattle.std.specs.Prelude.{◌≡◌, ℕ, ◌+◌, ◌<◌, ◌≤◌, ◌^◌, ⊤, Bool, true, List, [], ◌∷◌, ◌++◌, All, count_by, map, filter, find, drop, length, Option, None, Some, option_map}
use Rattle.std.specs.Ordering.{is_lt}
use Rattle.cps_text.specs.declared.name.Name.{Name}
use Rattle.cps_expr.specs.Value.{same_name}
use Rattle.cps_list.specs.Assembly.{Assembly}
use Rattle.cps_list.specs.Binary.{binary_text}
use Rattle.cps_list.specs.Flagged.{flags_text}
use Rattle.cps_list.specs.ListingText.{listing_from, listing_text}
use Rattle.cps_list.specs.declared.mention.Mention.{Mention}
use Rattle.cps_list.specs.Symbols.{defining_line, mentions_from, mentions_of, name_order, symbols_text}
use Rattle.cps_markup.specs.declared.place.Place.{Place}
use Rattle.cps_markup.specs.declared.place.Place.TheVariants.{Line, Symbol, Word, Block, Section}
use Rattle.cps_markup.specs.declared.place.PageSection.{PageSection}
use Rattle.cps_markup.specs.declared.place.PageSection.TheVariants as page
use Rattle.cps_markup.specs.declared.targets.Entry.{Entry}
use Rattle.cps_markup.specs.declared.targets.Targets.{Targets}
use Rattle.cps_markup.specs.declared.targets.WordEntry.{WordEntry}
use Rattle.cps_markup.specs.Links.{Leads, is_at, is_of}
use Rattle.cps_markup.specs.PlaceLaws.{IsWritten}
use Rattle.cps_markup.specs.Code.Adding.{Adds}
use Rattle.cps_markup.specs.Markup.{Markup, nothing, written, said, places, links}
use Rattle.cps_page.specs.Page.{Sections, body, section}

-- ---- symbols that are led to

-- a name stands behind the last one
abbrev pub is_behind : Option Name → Name → Bool
is_behind None name = true
is_behind (Some last) name = is_lt (name_order last name)

-- the first mention that defines a symbol
abbrev pub first_definition : Name → List Mention → Option Mention
first_definition name mentions = find (λ mention. mention.is_definition) (mentions_of name mentions)

-- a line is that of the first mention that defines a symbol
abbrev pub IsDefinedOn : List Mention → Entry → Type 0
IsDefinedOn mentions entry = option_map (λ (mention : Mention). mention.line) (first_definition entry.name mentions) ≡ Some entry.line

-- Each symbol of some mentions once, none behind the last one, each with the line that first defines it. A symbol behind the last one is defined nowhere.
pub record AreEntriesTo (mentions : List Mention) (last : Option Name) (entries : List Entry) : Type 0 where
  pub once : (name : Name) → count_by (is_of name) entries ≤ 1
  pub none_behind : (name : Name) → is_behind last name ≡ true → count_by (is_of name) entries ≡ 0
  pub none_defined : (name : Name) → is_behind last name ≡ true → first_definition name mentions ≡ None
  pub defined : All (IsDefinedOn mentions) entries
  pub written : All (λ entry. IsWritten (Symbol entry.name)) entries

pub record AreEntries (mentions : List Mention) (entries : List Entry) : Type 0 where
  pub once : (name : Name) → count_by (is_of name) entries ≤ 1
  pub defined : All (λ entry. entry.line ≡ defining_line (mentions_of entry.name mentions)) entries
  pub written : All (λ entry. IsWritten (Symbol entry.name)) entries

-- the symbol of a mention behind others is added, if none of these defines it
abbrev pub AddsFirst : Mention → List Entry → List Entry → Type 0
AddsFirst mention old new = (front : List Mention) (last : Option Name) → AreEntriesTo front last old → is_behind last mention.name ≡ true
    → mention.is_definition ≡ true → AreEntriesTo (front ++ mention ∷ []) (Some mention.name) new

-- a mention is behind others, from whose symbols entries are made up to the last one, and then up to one that may be another
abbrev pub AddsMention : Mention → Option Name → Option Name → List Entry → List Entry → Type 0
AddsMention mention last now old new = (front : List Mention) → AreEntriesTo front last old → AreEntriesTo (front ++ mention ∷ []) now new

-- ---- words that are led to

-- a word stands behind the last one
abbrev pub IsPast : Option ℕ → ℕ → Type 0
IsPast None digits = ⊤
IsPast (Some last) digits = last < digits

-- each word once, none behind the last one
pub record AreWordsTo (last : Option ℕ) (words : List WordEntry) : Type 0 where
  pub once : (digits : ℕ) → count_by (is_at digits) words ≤ 1
  pub none_behind : (digits : ℕ) → IsPast last digits → count_by (is_at digits) words ≡ 0
  pub written : All (λ word. IsWritten (Word word.digits)) words

-- a word behind the last one is added
abbrev pub AddsWord : ℕ → List WordEntry → List WordEntry → Type 0
AddsWord digits old new = (last : Option ℕ) → AreWordsTo last old → IsPast last digits → AreWordsTo (Some digits) new

pub record AreWords (words : List WordEntry) : Type 0 where
  pub once : (digits : ℕ) → count_by (is_at digits) words ≤ 1
  pub written : All (λ word. IsWritten (Word word.digits)) words

-- ---- blocks that are led to

-- each block once
pub record AreBlocks (blocks : List Name) : Type 0 where
  pub once : (name : Name) → count_by (same_name name) blocks ≤ 1
  pub written : All (λ name. IsWritten (Block name)) blocks

-- ---- places

-- lines that have numbers from one on
abbrev pub lines_from : ℕ → List (List ℕ) → List Place
lines_from number [] = []
lines_from number (line ∷ lines) = Line number ∷ lines_from (number + 1) lines

abbrev pub symbols_among : List Entry → List Place
symbols_among entries = map (λ entry. Symbol entry.name) entries

abbrev pub words_among : List WordEntry → List Place
words_among words = map (λ word. Word word.digits) words

abbrev pub blocks_among : List Name → List Place
blocks_among blocks = map (λ name. Block name) blocks

-- all places of a page
abbrev pub all_places : List (List ℕ) → Targets → List Place
all_places lines targets =
    Section page.Memory ∷ (blocks_among targets.blocks.items ++ Section page.Listing ∷ (lines_from 1 lines ++ Section page.Words
    ∷ (words_among targets.words.items ++ Section page.Symbols ∷ (symbols_among targets.entries.items ++ Section page.Flags ∷ (Section page.Instructions ∷ [])))))

-- ---- sections

-- a page has a section more, which says a text and has these places
pub record AddsSection (targets : Targets) (which : PageSection) (words : List ℕ) (here : List Place) (old new : List ℕ) : Type 0 where
  pub inside : Markup
  pub whole : new ≡ old ++ written (section which inside nothing)
  pub same_words : said inside ≡ words
  pub same_places : places inside ≡ here
  pub good : All (Leads targets) (links inside)

-- a page has the table of blocks more, in which each named block is a place
abbrev pub AddsMemorySection : Targets → List ℕ → List ℕ → Type 0
AddsMemorySection targets old new = AddsSection targets page.Memory [] (blocks_among targets.blocks.items) old new

-- a page has the lines behind so many, up to so many, more: what they say and their places, behind which those of the others come
pub record AddsLines (targets : Targets) (assembly : Assembly) (begin end : ℕ) (old new : List ℕ) : Type 0 where
  pub words : List ℕ
  pub here : List Place
  pub added : Adds (Leads targets) words here old new
  pub same_words : listing_from (begin + 1) (drop begin assembly.lines) (drop begin assembly.outcomes)
      ≡ words ++ listing_from (end + 1) (drop end assembly.lines) (drop end assembly.outcomes)
  pub same_places : lines_from (begin + 1) (drop begin assembly.lines) ≡ here ++ lines_from (end + 1) (drop end assembly.lines)

-- a page has the listing more, in which each line is a place
abbrev pub AddsListing : Targets → Assembly → List ℕ → List ℕ → Type 0
AddsListing targets assembly old new = Adds (Leads targets) (listing_text assembly) (lines_from 1 assembly.lines) old new

abbrev pub AddsListingSection : Targets → Assembly → List ℕ → List ℕ → Type 0
AddsListingSection targets assembly old new = AddsSection targets page.Listing (listing_text assembly) (lines_from 1 assembly.lines) old new

-- a page has the cross-reference more, in which each symbol that can be led to is a place
abbrev pub AddsSymbolSection : Targets → List ℕ → List ℕ → List ℕ → Type 0
AddsSymbolSection targets text old new = AddsSection targets page.Symbols text (symbols_among targets.entries.items) old new

-- a page has the binary text more, in which each word that can be led to is a place
abbrev pub AddsWordSection : Targets → List ℕ → List ℕ → List ℕ → Type 0
AddsWordSection targets text old new = AddsSection targets page.Words text (words_among targets.words.items) old new

-- a page has the sections more
pub record AddsSections (targets : Targets) (assembly : Assembly) (old new : List ℕ) : Type 0 where
  pub sections : Sections
  pub whole : new ≡ old ++ written (body sections)
  pub memory : said sections.memory ≡ []
  pub listing : said sections.listing ≡ listing_text assembly
  pub words : said sections.words ≡ binary_text assembly
  pub symbols : said sections.symbols ≡ symbols_text assembly
  pub flags : said sections.flags ≡ flags_text assembly
  pub instructions : said sections.instructions ≡ []
  pub same_places : places (body sections) ≡ all_places assembly.lines targets
  pub good : All (Leads targets) (links (body sections))

-- the lines, symbols, words and blocks of a source
pub record AreTargets (assembly : Assembly) (targets : Targets) : Type 0 where
  pub lines : targets.count ≡ length assembly.lines
  pub symbols : AreEntries (mentions_from 1 assembly.outcomes) targets.entries.items
  pub words : AreWords targets.words.items
  pub blocks : AreBlocks targets.blocks.items
  pub few : length assembly.lines < 2 ^ 32
