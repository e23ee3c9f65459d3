-- What is told where a source ends.
use Rattle.std.proofs.Common.{◌≡◌, ℕ, ◌<◌, ◌≤◌, min, Bool, List, length, take, ap, ◌∙◌, arith, length-take}
use Rattle.std.proofs.lemmas.List.{length-map}
use Rattle.cps_text.specs.declared.limits.TheConstants.{MOST_LINES}
use Rattle.cps_input.specs.Card.{card_of, cards_of}
use Rattle.cps_state.specs.Course.{Trace}
use Rattle.cps_state.specs.Keys.{first_state}
use Rattle.cps_final.specs.Finals.{Finals, finals_of, is_open_at_end}
use Rattle.cps_edit.proofs.SpliceLemmas.{length-traces_from}
use Rattle.cps_edit.specs.Assembly.{ends_open, traces_of}

-- whether something is open is told by what was gathered
pub end-open : (cards : List (List ℕ)) (traces : List Trace) (finals : Finals) (is : Bool) → traces ≡ traces_of cards → finals ≡ finals_of traces
    → is ≡ is_open_at_end finals → is ≡ ends_open cards
end-open cards traces finals is traces_are finals_are told = told ∙ ap is_open_at_end (finals_are ∙ ap finals_of traces_are)

-- a line that does something has a card
pub card-there : (cards : List (List ℕ)) (traces : List Trace) (above : ℕ) → traces ≡ traces_of cards → above < length traces → above < length cards
card-there cards traces above traces_are within =
    let count : length traces ≡ length cards = ap length traces_are ∙ length-traces_from first_state cards in
    omega arith

-- no more cards stand for lines than a source has
pub few-cards : (lines : List (List ℕ)) → length (cards_of lines) ≤ MOST_LINES
few-cards lines =
    let same : length (cards_of lines) ≡ min MOST_LINES (length lines) = length-map (take MOST_LINES lines) card_of ∙ length-take MOST_LINES lines in
    omega arith
