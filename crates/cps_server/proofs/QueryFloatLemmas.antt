-- No float is in what is told.
use Rattle.std.proofs.Common.{◌≡◌, refl, subst, ap, ◌∙◌, ℕ, Bool, true, false, ◌||◌, List, [], ◌∷◌, ◌++◌, ◌-◌, Option, None, Some, ⊎_elim, inl, inr}
use Rattle.std.specs.Prelude.{All, codes, flat_map, length, map, option_map}
use Rattle.std.specs.List.{AllZip, range_with_len}
use Rattle.std.proofs.lemmas.List.Elements.{All-head, All-tail}
use Rattle.serde_json.specs.Data.{Data}
use Rattle.serde_json.specs.View.{items_of}
use Rattle.serde_json.specs.Written.{has_float, items_have_float}
use Rattle.cps_list.specs.declared.mention.Mention.{Mention}
use Rattle.cps_list.specs.Symbols.{value_of, value_text}
use Rattle.cps_text.specs.Name.{name_text}
use Rattle.cps_rpc.specs.declared.encoding.Encoding.{Encoding}
use Rattle.cps_server.specs.declared.query.Query.{Query}
use Rattle.cps_server.specs.declared.query.Query.TheVariants.{Hover, Definition, References, Highlights, Symbols, Hints, Completions, Listing, FoldingRanges, Signatures, Actions, Tokens, RangeTokens, Formats, RangeFormats}
use Rattle.cps_rpc.specs.declared.position.Position.{Position}
use Rattle.cps_rpc.specs.Params.{position_at, range_at, wants_definitions}
use Rattle.cps_server.specs.Queries.{Tells, TellsOf}
use Rattle.cps_rpc.specs.declared.client.Client.{Client}
use Rattle.cps_rpc.specs.declared.markup.Markup.{Markup}
use Rattle.cps_server.specs.Ranges.{IsInLine, told_units, word_at}
use Rattle.cps_server.specs.Completions.{Offer, completion, macros_in, offered_at}
use Rattle.cps_server.specs.Results.{TellsEach, TellsFirst, TellsHighlight, TellsMention, TellsShown, finals_in, hint_at, hint_in, hover, lines_within, listing_json, text_beside}
use Rattle.cps_server.specs.Outline.{AreNamed, IsLaidOut, IsOutlined, IsRow, IsRowBetween, IsSection, Section, TellsHeading, TellsMacro, TellsSymbol, TellsSymbols}
use Rattle.cps_server.specs.Foldings.{TellsFoldings, folding_json, lines_json}
use Rattle.cps_server.specs.Signatures.{TellsSignature, part_json, signature_json}
use Rattle.cps_server.specs.declared.signature.Signature.{Signature}
use Rattle.cps_server.specs.Actions.{TellsActions, action_json, edit_json}
use Rattle.cps_server.specs.declared.action.Action.{Action}
use Rattle.cps_server.specs.Code.Telling.{has_float_told}
use Rattle.cps_server.proofs.RenameLemmas.{edits-no-float}
use Rattle.cps_server.specs.Tokens.{data_of, encoded, number_json}
use Rattle.cps_server.specs.declared.token.Token.{Token}
use Rattle.cps_server.specs.Document.{source_of_text}
use Rattle.cps_mention.specs.declared.caret.Caret.{Caret}
use Rattle.cps_mention.specs.declared.mention.Mention.{Mention as Named}
use Rattle.cps_mention.specs.declared.spot.Spot.{Spot}
use Rattle.cps_mention.specs.declared.stretch.Stretch.{Stretch}
use Rattle.cps_mention.specs.Spots.{definitions as defined_spots, stretch_at}
use Rattle.cps_server.specs.Hovers.{ShowsNamed, TellsHover, range_of_mention}
use Rattle.cps_server.specs.Locations.{TellsDefined, TellsDefinition, TellsHighlights, TellsPlaces, TellsReferences, caret_at, counted_by, named_at, spot_highlight, spot_highlights, spot_location, spot_locations, stretch_range, wanted}
use Rattle.cps_server.specs.Openers.{TellsOpener, TellsPartner, TellsPartners}
use Rattle.cps_server.specs.Symbols.{definitions, line_of, mentions_at, mentions_in, wanted as words_wanted}

abbrev is_yes : Bool → Type 0
is_yes true = Unit {0}
is_yes false = ⊥

pub true-false : {A : Type 0} → true ≡ false → A
true-false is = absurd (subst is_yes is tt)

-- ---- lists

each-no-float : {A : Type 0} (tells : A → Data → Type 0) → ((a : A) (json : Data) → tells a json → has_float json ≡ false)
    → (list : List A) (told : List Data) → AllZip tells list told → items_have_float (items_of told) ≡ false
each-no-float tells none [] [] each = refl
each-no-float tells none [] (json ∷ told) each = absurd each
each-no-float tells none (a ∷ list) [] each = absurd each
each-no-float tells none (a ∷ list) (json ∷ told) each =
    ap (λ b. b || items_have_float (items_of told)) (none a json each.0) ∙ each-no-float tells none list told each.1

list-no-float : {A : Type 0} (tells : A → Data → Type 0) → ((a : A) (json : Data) → tells a json → has_float json ≡ false)
    → (list : List A) (json : Data) → TellsEach tells list json → has_float json ≡ false
list-no-float tells none list json each = ap has_float each.2 ∙ each-no-float tells none list each.0 each.1

both-no-float : (front back : List Data) → items_have_float (items_of front) ≡ false → items_have_float (items_of back) ≡ false
    → items_have_float (items_of (front ++ back)) ≡ false
both-no-float [] back first second = second
both-no-float (json ∷ front) back first second = at (λ none. both-no-float front back none second) (has_float json) first
  where
    at : (items_have_float (items_of front) ≡ false → items_have_float (items_of (front ++ back)) ≡ false) → (b : Bool)
        → (b || items_have_float (items_of front)) ≡ false → (b || items_have_float (items_of (front ++ back))) ≡ false
    at rest true first = first
    at rest false first = rest first

-- ---- what is told

hover-no-float : (markup : Markup) (shown : Option (List ℕ)) (range : Option Data) → has_float_told range ≡ false → has_float (hover markup shown range) ≡ false
hover-no-float markup None range none = refl
hover-no-float markup (Some rows) None none = refl
hover-no-float markup (Some rows) (Some range) none = ap (λ b. b || false) none

-- ---- by mentions

mapped-no-float : {A : Type 0} (f : A → Data) → ((a : A) → has_float (f a) ≡ false) → (list : List A) → items_have_float (items_of (map f list)) ≡ false
mapped-no-float f none [] = refl
mapped-no-float f none (a ∷ list) = ap (λ b. b || items_have_float (items_of (map f list))) (none a) ∙ mapped-no-float f none list

locations-no-float : (encoding : Encoding) (uri text : List ℕ) (spots : List Spot) → has_float (spot_locations encoding uri text spots) ≡ false
locations-no-float encoding uri text spots = mapped-no-float (spot_location encoding uri text) (λ spot. refl) spots

highlights-no-float : (encoding : Encoding) (text : List ℕ) (spots : List Spot) → has_float (spot_highlights encoding text spots) ≡ false
highlights-no-float encoding text spots = mapped-no-float (spot_highlight encoding text) (λ spot. refl) spots

stretch-no-float : (encoding : Encoding) (text : List ℕ) (stretch : Option Stretch) → has_float_told (option_map (stretch_range encoding text) stretch) ≡ false
stretch-no-float encoding text None = refl
stretch-no-float encoding text (Some stretch) = refl

range-named-no-float : (encoding : Encoding) (text : List ℕ) (caret : Caret) (mention : Option Named) → has_float_told (range_of_mention encoding text caret mention) ≡ false
range-named-no-float encoding text caret None = refl
range-named-no-float encoding text caret (Some mention) = stretch-no-float encoding text (stretch_at caret mention.written.items)

shown-no-float : (encoding : Encoding) (markup : Markup) (text : List ℕ) (position : Position) (json : Data)
    → TellsHover encoding markup text position json → has_float json ≡ false
shown-no-float encoding markup text position json tells =
    ⊎_elim (λ (named : ShowsNamed encoding markup text position json).
    ap has_float named.is
    ∙ hover-no-float markup named.shown (range_of_mention encoding text (caret_at encoding text position) (named_at encoding text position named.mentions))
    (range-named-no-float encoding text (caret_at encoding text position) (named_at encoding text position named.mentions)))
    (λ (words : TellsShown encoding markup text position json). ap has_float words.2 ∙ hover-no-float markup words.0 None refl) tells

range-no-float : (line : ℕ) (range : Data) → IsInLine line range → has_float range ≡ false
range-no-float line range is = ap has_float is.2

mention-no-float : (uri : List ℕ) (mention : Mention) (json : Data) → TellsMention uri mention json → has_float json ≡ false
mention-no-float uri mention json tells = ap has_float tells.2 ∙ ap (λ b. b || false) (range-no-float _ tells.0 tells.1)

highlight-no-float : (mention : Mention) (json : Data) → TellsHighlight mention json → has_float json ≡ false
highlight-no-float mention json tells = ap has_float tells.2 ∙ ap (λ b. b || false) (range-no-float _ tells.0 tells.1)

first-no-float : (uri : List ℕ) (mentions : List Mention) (json : Data) → TellsFirst uri mentions json → has_float json ≡ false
first-no-float uri [] json tells = ap has_float tells
first-no-float uri (mention ∷ mentions) json tells = mention-no-float uri mention json tells

outlined-no-float : (kind : ℕ) (detail name : List ℕ) (line : ℕ) (json : Data) → IsOutlined kind detail name line json → has_float json ≡ false
outlined-no-float kind detail name line json is = ap has_float is.is

all-no-float : (P : Data → Type 0) → ((json : Data) → P json → has_float json ≡ false) → (told : List Data) → All P told → items_have_float (items_of told) ≡ false
all-no-float P none [] all = refl
all-no-float P none (json ∷ told) all =
    ap (λ b. b || items_have_float (items_of told)) (none json (All-head P json told all)) ∙ all-no-float P none told (All-tail P json told all)

row-no-float : (line : ℕ) (json : Data) → IsRow line json → has_float json ≡ false
row-no-float line json is = outlined-no-float is.kind is.detail is.name line json is.is

section-no-float : (section : Section) → IsSection section → has_float section.json ≡ false
section-no-float section is =
    ap has_float is.is
    ∙ ap (λ b. b || false) (all-no-float (IsRowBetween is.heading.line is.end) (λ json between. row-no-float between.line json between.is) section.rows is.within)

sections-no-float : (sections : List Section) → All IsSection sections → items_have_float (items_of (map (λ (section : Section). section.json) sections)) ≡ false
sections-no-float [] all = refl
sections-no-float (section ∷ sections) all =
    ap (λ b. b || items_have_float (items_of (map (λ (section : Section). section.json) sections))) (section-no-float section (All-head IsSection section sections all))
    ∙ sections-no-float sections (All-tail IsSection section sections all)

named-no-float : (text : List ℕ) (rows : List Data) → AreNamed text rows → items_have_float (items_of rows) ≡ false
named-no-float text rows named =
    ap (λ all. items_have_float (items_of all)) named.are
    ∙ both-no-float named.symbols named.macros
    (each-no-float (TellsSymbol (finals_in text))
    (λ mention json is. outlined-no-float 14 (value_text (value_of (finals_in text) mention.name)) (name_text mention.name) (mention.line - 1) json is)
    (definitions (mentions_in text)) named.symbols named.each_symbol)
    (each-no-float TellsMacro (λ name json is. outlined-no-float 12 (codes "macro") (name_text name) is.0 json is.1) (macros_in text) named.macros named.each_macro)

laid-out-no-float : (is_tree : Bool) (rows told : List Data) → items_have_float (items_of rows) ≡ false → IsLaidOut is_tree rows told
    → items_have_float (items_of told) ≡ false
laid-out-no-float true rows told none tree =
    ap (λ all. items_have_float (items_of all)) tree.is
    ∙ both-no-float tree.front (map (λ (section : Section). section.json) tree.sections)
    (all-no-float (λ json. (line : ℕ) × IsRow line json) (λ json is. row-no-float is.0 json is.1) tree.front tree.in_line) (sections-no-float tree.sections tree.each_section)
laid-out-no-float false rows told none flat =
    ap (λ all. items_have_float (items_of all)) flat.is
    ∙ both-no-float rows flat.headings none
    (each-no-float TellsHeading (λ heading json is. outlined-no-float 3 (codes "heading") is.0 heading.line json is.1) flat.heads flat.headings flat.each_heading)

symbols-no-float : (is_tree : Bool) (text : List ℕ) (json : Data) → TellsSymbols is_tree text json → has_float json ≡ false
symbols-no-float is_tree text json tells =
    ap has_float tells.is ∙ laid-out-no-float is_tree tells.rows tells.told (named-no-float text tells.rows tells.named) tells.laid_out

hint-no-float : (line character : ℕ) (text : Option (List ℕ)) → items_have_float (items_of (hint_in line character text)) ≡ false
hint-no-float line character None = refl
hint-no-float line character (Some text) = refl

hints-no-float : (encoding : Encoding) (text : List ℕ) (numbers : List ℕ) → items_have_float (items_of (flat_map (hint_at encoding text) numbers)) ≡ false
hints-no-float encoding text [] = refl
hints-no-float encoding text (line ∷ numbers) =
    both-no-float (hint_at encoding text line) (flat_map (hint_at encoding text) numbers)
    (hint-no-float line (told_units encoding (line_of text line) (length (line_of text line))) (text_beside text line))
    (hints-no-float encoding text numbers)

listings-no-float : (text : List ℕ) (numbers : List ℕ) → items_have_float (items_of (map (listing_json text) numbers)) ≡ false
listings-no-float text [] = refl
listings-no-float text (number ∷ numbers) = listings-no-float text numbers

completions-no-float : (range : Data) → has_float range ≡ false → (offers : List Offer) → items_have_float (items_of (map (completion range) offers)) ≡ false
completions-no-float range none [] = refl
completions-no-float range none (offer ∷ offers) =
    ap (λ b. ((b || false) || false) || items_have_float (items_of (map (completion range) offers))) none ∙ completions-no-float range none offers

defined-no-float : (encoding : Encoding) (uri text : List ℕ) (position : Position) (json : Data)
    → TellsDefined encoding uri text position json → has_float json ≡ false
defined-no-float encoding uri text position json tells =
    ⊎_elim (λ named. ap has_float named.is
    ∙ locations-no-float encoding uri text (counted_by (named_at encoding text position named.mentions) (defined_spots named.spots)))
    (λ words. first-no-float uri (definitions (mentions_at encoding text position)) json words) tells

definition-no-float : (encoding : Encoding) (uri text : List ℕ) (position : Position) (json : Data)
    → TellsDefinition encoding uri text position json → has_float json ≡ false
definition-no-float encoding uri text position json tells =
    ⊎_elim (λ (opener : TellsOpener encoding uri text position json).
    ap has_float opener.is ∙ ap (λ b. (b || false) || false) (range-no-float opener.line opener.range opener.in_line))
    (λ (names : TellsDefined encoding uri text position json). defined-no-float encoding uri text position json names) tells

references-no-float : (too : Bool) (encoding : Encoding) (uri text : List ℕ) (position : Position) (json : Data)
    → TellsReferences too encoding uri text position json → has_float json ≡ false
references-no-float too encoding uri text position json tells =
    ⊎_elim (λ named. ap has_float named.is ∙ locations-no-float encoding uri text (wanted too named.spots))
    (λ words. list-no-float (TellsMention uri) (mention-no-float uri) (words_wanted too (mentions_at encoding text position)) json words) tells

places-no-float : (encoding : Encoding) (text : List ℕ) (position : Position) (json : Data)
    → TellsPlaces encoding text position json → has_float json ≡ false
places-no-float encoding text position json tells =
    ⊎_elim (λ named. ap has_float named.is ∙ highlights-no-float encoding text named.spots)
    (λ words. list-no-float TellsHighlight highlight-no-float (mentions_at encoding text position) json words) tells

partner-no-float : (line : ℕ) (json : Data) → TellsPartner line json → has_float json ≡ false
partner-no-float line json tells = ap has_float tells.2 ∙ ap (λ b. b || false) (range-no-float _ tells.0 tells.1)

marked-no-float : (encoding : Encoding) (text : List ℕ) (position : Position) (json : Data)
    → TellsHighlights encoding text position json → has_float json ≡ false
marked-no-float encoding text position json tells =
    ⊎_elim (λ (partners : TellsPartners encoding text position json). list-no-float TellsPartner partner-no-float partners.lines json partners.each)
    (λ (places : TellsPlaces encoding text position json). places-no-float encoding text position json places) tells

lines-no-float : (is_comment : Bool) (first last : ℕ) → has_float (lines_json is_comment first last) ≡ false
lines-no-float true first last = refl
lines-no-float false first last = refl

foldings-no-float : (text : List ℕ) (json : Data) → TellsFoldings text json → has_float json ≡ false
foldings-no-float text json tells =
    ap has_float tells.2 ∙ mapped-no-float folding_json (λ folding. lines-no-float folding.is_comment folding.first folding.last) tells.0

one-signature-no-float : (signature : Signature) → has_float (signature_json signature) ≡ false
one-signature-no-float signature = ap (λ b. b || false) (mapped-no-float part_json (λ part. refl) signature.parameters.items)

signature-no-float : (text : List ℕ) (position : Position) (json : Data) → TellsSignature text position json → has_float json ≡ false
signature-no-float text position json (inl none) = ap has_float none
signature-no-float text position json (inr some) = ap has_float some.1.4 ∙ ap (λ b. b || false) (mapped-no-float signature_json one-signature-no-float some.1.0)

action-no-float : (encoding : Encoding) (uri text : List ℕ) (action : Action) → has_float (action_json encoding uri text action) ≡ false
action-no-float encoding uri text action =
    ap (λ b. ((b || false) || false) || false) (mapped-no-float (edit_json encoding text) (λ edit. refl) action.edits.items)

actions-no-float : (encoding : Encoding) (uri text : List ℕ) (json : Data) → TellsActions encoding uri text json → has_float json ≡ false
actions-no-float encoding uri text json tells = ap has_float tells.2 ∙ mapped-no-float (action_json encoding uri text) (action-no-float encoding uri text) tells.0

numbers-no-float : (numbers : List ℕ) → items_have_float (items_of (map number_json numbers)) ≡ false
numbers-no-float [] = refl
numbers-no-float (number ∷ numbers) = numbers-no-float numbers

tokens-no-float : (tokens : List Token) → has_float (data_of tokens) ≡ false
tokens-no-float tokens = ap (λ b. b || false) (numbers-no-float (encoded tokens))

-- ---- queries

of-no-float : {A : Type 0} (asked : Option A) (tells : A → Data → Type 0) → ((a : A) (json : Data) → tells a json → has_float json ≡ false)
    → (told : Option Data) → TellsOf asked tells told → has_float_told told ≡ false
of-no-float None tells none told is = ap has_float_told is
of-no-float (Some asked) tells none told is = ap has_float_told is.1 ∙ none asked is.0 is.2

pub tells-no-float : (query : Query) (params : Data) (encoding : Encoding) (client : Client) (uri text : List ℕ) (told : Option Data)
    → Tells query params encoding client uri text told
    → has_float_told told ≡ false
tells-no-float Hover params encoding client uri text told tells =
    of-no-float (position_at params) _ (λ position json is. shown-no-float encoding client.markup text position json is) told tells
tells-no-float Definition params encoding client uri text told tells =
    of-no-float (position_at params) _ (λ position json is. definition-no-float encoding uri text position json is) told tells
tells-no-float References params encoding client uri text told tells =
    of-no-float (position_at params) _ (λ position json is. references-no-float (wants_definitions params) encoding uri text position json is) told tells
tells-no-float Highlights params encoding client uri text told tells =
    of-no-float (position_at params) _ (λ position json is. marked-no-float encoding text position json is) told tells
tells-no-float Symbols params encoding client uri text told tells =
    ap has_float_told tells.1 ∙ symbols-no-float client.takes_trees text tells.0 tells.2
tells-no-float Hints params encoding client uri text told tells =
    of-no-float (range_at params) _ (λ range json is. ap has_float is ∙ hints-no-float encoding text _) told tells
tells-no-float Completions params encoding client uri text told tells =
    of-no-float (position_at params) _
    (λ position json is. ap has_float is ∙ completions-no-float (word_at encoding text position) refl (offered_at encoding text position)) told tells
tells-no-float Listing params encoding client uri text told tells =
    of-no-float (range_at params) _ (λ range json is. ap has_float is ∙ listings-no-float text (range_with_len range.start.line (lines_within (length (source_of_text text)) range))) told tells
tells-no-float FoldingRanges params encoding client uri text told tells = ap has_float_told tells.1 ∙ foldings-no-float text tells.0 tells.2
tells-no-float Signatures params encoding client uri text told tells =
    of-no-float (position_at params) _ (λ position json is. signature-no-float text position json is) told tells
tells-no-float Actions params encoding client uri text told tells =
    of-no-float (range_at params) _ (λ range json is. actions-no-float encoding uri text json is) told tells
tells-no-float Tokens params encoding client uri text told tells = ap has_float_told tells.1 ∙ ap has_float tells.2.2 ∙ tokens-no-float tells.2.0
tells-no-float RangeTokens params encoding client uri text told tells =
    of-no-float (range_at params) _ (λ range json is. ap has_float is.3 ∙ tokens-no-float is.0) told tells
tells-no-float Formats params encoding client uri text told tells = ap has_float_told tells.1 ∙ ap has_float tells.2.2 ∙ edits-no-float tells.2.0
tells-no-float RangeFormats params encoding client uri text told tells =
    of-no-float (range_at params) _ (λ range json is. ap has_float is.3 ∙ edits-no-float is.0) told tells
