-- The cards of a source.
use Rattle.std.proofs.Common.{◌≡◌, ℕ, ◌+◌, ◌<◌, ◌≤◌, min, List, [], ◌∷◌, ◌++◌, length, get_or, take, drop, map, refl, sym, ap, ◌∙◌, arith, length-take}
use Rattle.std.specs.Prelude.{None, Option, Some, slice_get, slice_range}
use Rattle.std.specs.List.{AllByRecursion, splice}
use Rattle.std.proofs.lemmas.List.{length-map, map-append, map_push, take-map, drop-map, take_all, drop_min}
use Rattle.std.proofs.lemmas.List.Edits.{between_more}
use Rattle.std.proofs.lemmas.List.Elements.{All-from_recursion, recursion_from_All}
use Rattle.std.proofs.lemmas.Option.{get_or_from_slice_get}
use Rattle.cps_text.specs.declared.limits.TheConstants.{MOST_LINES}
use Rattle.cps_text.specs.Line.{IsLine}
use Rattle.cps_input.specs.Lines.{HasText}
use Rattle.cps_input.specs.Sources.{IsSource}
use Rattle.cps_input.specs.Card.{card_of, cards_of}
use Rattle.cps_input.proofs.CardLemmas.{IsLine-card, card_of-line}
use Rattle.cps_rpc.specs.declared.position.Range.{Range}
use Rattle.cps_rpc.specs.declared.replacement.Replacement.{Replacement}
use Rattle.cps_rpc.specs.Changes.{end_touched, first_touched}
use Rattle.cps_rpc.specs.TextLaws.{IsInSource}
use Rattle.cps_rpc.specs.Lines.{source_lines}
use Rattle.cps_rpc.proofs.SourceLemmas.{source-read}
use Rattle.cps_server.specs.Document.{source_of_text}

-- ---- lines of a source, one after another

-- the card of one line more
pub card-more : (source cards now : List (List ℕ)) (first at : ℕ) (line card : List ℕ) → first ≤ at → at < length source
    → cards ≡ map card_of (slice_range source first at) → slice_get source at ≡ Some line → card ≡ card_of line → now ≡ cards ++ card ∷ []
    → now ≡ map card_of (slice_range source first (at + 1))
card-more source cards now first at line card behind within so_far there is pushed =
    let so_many = slice_range source first at in
    let read : get_or source at [] ≡ line = get_or_from_slice_get source at line [] there in
    pushed
    ∙ ap (λ cs. cs ++ card ∷ []) so_far
    ∙ ap (λ c. map card_of so_many ++ c ∷ []) (is ∙ ap card_of (sym read))
    ∙ sym (ap (map card_of) (between_more source first at [] behind within) ∙ map_push card_of so_many (get_or source at []))

-- ---- lines in the place of others

cards-few : (lines : List (List ℕ)) → length lines ≤ MOST_LINES → cards_of lines ≡ map card_of lines
cards-few lines few = ap (map card_of) (take_all MOST_LINES lines few)

pub length-cards : (lines : List (List ℕ)) → length (cards_of lines) ≡ min MOST_LINES (length lines)
length-cards lines = length-map (take MOST_LINES lines) card_of ∙ length-take MOST_LINES lines

-- the cards of new lines come in the place of those of old ones
pub cards-put : (old new : List (List ℕ)) (first end count : ℕ) → length old ≤ MOST_LINES → length new ≤ MOST_LINES
    → new ≡ splice old first end (take count (drop first new))
    → splice (cards_of old) first (min end (length old)) (map card_of (take count (drop first new))) ≡ cards_of new
cards-put old new first end count few still is =
    let middle = take count (drop first new) in
    let last = min end (length old) in
    let front : take first (cards_of old) ≡ map card_of (take first old) = ap (take first) (cards-few old few) ∙ take-map card_of first old in
    let back : drop last (cards_of old) ≡ map card_of (drop end old) = ap (drop last) (cards-few old few) ∙ drop-map card_of last old ∙ ap (map card_of) (drop_min end old) in
    ap (λ f. f ++ (map card_of middle ++ drop last (cards_of old))) front
    ∙ ap (λ b. map card_of (take first old) ++ (map card_of middle ++ b)) back
    ∙ ap (λ b. map card_of (take first old) ++ b) (sym (map-append card_of middle (drop end old)))
    ∙ sym (map-append card_of (take first old) (middle ++ drop end old))
    ∙ ap (map card_of) (sym is)
    ∙ sym (cards-few new still)

-- the source of a changed text is that of the old one, with the cards of the new lines in their place
pub source-put : (old new : List ℕ) (source cards : List (List ℕ)) (replacement : Replacement) (last : ℕ) → IsInSource old new replacement
    → source ≡ source_of_text old → length (source_lines old) ≤ MOST_LINES → length (source_lines new) ≤ MOST_LINES
    → cards ≡ map card_of (take replacement.count (drop replacement.first (source_lines new))) → last ≡ min replacement.end (length (source_lines old))
    → splice source replacement.first last cards ≡ source_of_text new
source-put old new source cards replacement last within was few still come behind =
    let first = replacement.first in
    let news = map card_of (take replacement.count (drop first (source_lines new))) in
    ap (λ s. splice s first last cards) was
    ∙ ap (λ cs. splice (source_of_text old) first last cs) come
    ∙ ap (λ n. splice (source_of_text old) first n news) behind
    ∙ cards-put (source_lines old) (source_lines new) first replacement.end replacement.count few still within.lines

-- ---- the source of a text

lines-kept : (lines : List (List ℕ)) → AllByRecursion IsLine lines → map card_of lines ≡ lines
lines-kept [] are = refl
lines-kept (line ∷ lines) are = ap (λ l. l ∷ map card_of lines) (card_of-line line are.0) ∙ ap (λ l. line ∷ l) (lines-kept lines are.1)

pub agrees : (text : List ℕ) (source : List (List ℕ)) → HasText text source → IsSource source → source_of_text text ≡ source
agrees text source read is =
    ap cards_of (sym (source-read text source read)) ∙ cards-few source is.few ∙ lines-kept source (recursion_from_All IsLine source is.each)

cards-lines : (lines : List (List ℕ)) → AllByRecursion IsLine (map card_of lines)
cards-lines [] = tt
cards-lines (line ∷ lines) = (IsLine-card line, cards-lines lines)

pub stands : (text : List ℕ) → IsSource (source_of_text text)
stands text = record {
  each = All-from_recursion IsLine (source_of_text text) (cards-lines (take MOST_LINES (source_lines text)));
  few = omega (arith, length-cards (source_lines text));
}

-- ---- a replacement

-- the lines that a range touches end behind the first of them
pub ends-behind : (lines : List (List ℕ)) (range : Option Range) → first_touched lines range ≤ end_touched lines range
ends-behind lines None = omega arith
ends-behind lines (Some range) = omega arith
