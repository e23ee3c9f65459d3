-- Cards are lines, and a line is its own card.
use Rattle.std.proofs.Common.{◌≡◌, ℕ, zero, suc, ◌≤◌, Bool, true, false, List, [], ◌∷◌, length, take, map, refl, sym, ap, ◌∙◌, arith, length-take}
use Rattle.std.specs.Borrow.{Bor}
use Rattle.std.proofs.lemmas.Bool.{cond-true, cond-false, and_parts, and_from}
use Rattle.std.proofs.lemmas.List.{take_all, take-map}
use Rattle.cps_text.specs.declared.limits.TheConstants.{MOST_LINES}
use Rattle.cps_text.specs.Line.{IsLine, all_accepted, is_accepted_byte, longest_line}
use Rattle.cps_input.specs.Card.{card_of, cards_of, column_of}

accepted-column : (byte : ℕ) (is : Bool) → is_accepted_byte byte ≡ is → is_accepted_byte (column_of byte) ≡ true
accepted-column byte true test = ap is_accepted_byte (cond-true _ _ _ test) ∙ test
accepted-column byte false test = ap is_accepted_byte (cond-false _ _ _ test)

accepted-columns : (n : ℕ) (line : List ℕ) → all_accepted (take n (map column_of line)) ≡ true
accepted-columns zero line = refl
accepted-columns (suc n) [] = refl
accepted-columns (suc n) (byte ∷ line) = and_from _ _ (accepted-column byte (is_accepted_byte byte) refl) (accepted-columns n line)

-- a card is a line
pub IsLine-card : (line : List ℕ) → IsLine (card_of line)
IsLine-card line = record {
  short = let len = length-take longest_line (map column_of line) in omega arith;
  accepted = accepted-columns longest_line line;
}

kept : (text : List ℕ) → all_accepted text ≡ true → map column_of text ≡ text
kept [] all = refl
kept (byte ∷ text) all =
    let parts = and_parts (is_accepted_byte byte) (all_accepted text) all in
    ap (λ column. column ∷ map column_of text) (cond-true _ _ _ parts.0) ∙ ap (λ rest. byte ∷ rest) (kept text parts.1)

-- a line is its own card
pub card_of-line : (line : List ℕ) → IsLine line → card_of line ≡ line
card_of-line line is = ap (take longest_line) (kept line is.accepted) ∙ take_all longest_line line is.short

-- what is punched of a line's first columns
pub card_of-front : (line front columns : List ℕ) → front ≡ take longest_line line → columns ≡ map column_of front → columns ≡ card_of line
card_of-front line front columns first made = made ∙ ap (map column_of) first ∙ sym (take-map column_of longest_line line)

cards-of-each : (lines : List (Bor (List ℕ))) → map (λ line. card_of line.now) lines ≡ map card_of (map (λ line. line.now) lines)
cards-of-each [] = refl
cards-of-each (line ∷ lines) = ap (λ cards. card_of line.now ∷ cards) (cards-of-each lines)

-- the cards of all of the first lines
pub cards_of-first : (lines some : List (Bor (List ℕ))) (count : ℕ) → some ≡ take MOST_LINES lines → length some ≤ count
    → map (λ line. card_of line.now) (take count some) ≡ cards_of (map (λ line. line.now) lines)
cards_of-first lines some count first all =
    ap (map (λ line. card_of line.now)) (take_all count some all ∙ first)
    ∙ cards-of-each (take MOST_LINES lines)
    ∙ ap (map card_of) (sym (take-map (λ (line : Bor (List ℕ)). line.now) MOST_LINES lines))
