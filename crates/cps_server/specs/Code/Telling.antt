-- For the code, not part of what a reader believes: what is told of a deck, floats in it, and items that are told.
use Rattle.std.specs.Prelude.{◌≡◌, ◌≤◌, ℕ, Bool, false, List, ◌++◌, map, Option}
use Rattle.std.specs.Borrow.{Bor}
use Rattle.std.specs.Option.{option_map_or}
use Rattle.serde_json.specs.Data.{Data}
use Rattle.serde_json.specs.View.{view}
use Rattle.serde_json.specs.Written.{has_float}
use Rattle.serde_json.specs.declared.value.Value.{Value}
use Rattle.indexmap.specs.IndexSet.{insert_all}
use Rattle.cps_text.specs.declared.name.Name.{Name}
use Rattle.cps_expr.specs.Value.{same_name}
use Rattle.cps_list.specs.declared.mention.Mention.{Mention}
use Rattle.cps_rpc.specs.declared.position.Position.{Position}
use Rattle.cps_server.specs.Symbols.{mentions_at}
use Rattle.cps_server.specs.declared.queried_text.QueriedText.{QueriedText}
use Rattle.cps_server.specs.declared.ranges.Units.{Units}
use Rattle.cps_server.specs.Completions.{Offer, completion, completions_at, offered_in}
use Rattle.cps_server.specs.declared.completions.Seat.{Seat}
use Rattle.cps_server.specs.declared.action.Action.{Action}
use Rattle.cps_server.specs.declared.action.LineEdit.{LineEdit}
use Rattle.cps_server.specs.Actions.{action_json, edit_json}
use Rattle.cps_server.specs.declared.offers.Sort.{Sort}
use Rattle.cps_server.specs.Results.{hint_at}

-- whether what is told has a float
abbrev pub has_float_told : Option Data → Bool
has_float_told told = option_map_or has_float told false

-- words are offered behind others, in the place of a range
abbrev pub AddsOffers : Value → List Offer → List Value → List Value → Type 0
AddsOffers range offers old new = map view new ≡ map view old ++ map (completion (view range)) offers

-- labels of a sort, as they are offered
abbrev pub offer_of : Sort → List ℕ → Offer
offer_of sort label = record { kind = sort.kind; label = label; detail = sort.detail.now }

abbrev pub sorted_offers : Sort → List (List ℕ) → List Offer
sorted_offers sort labels = map (offer_of sort) labels

-- what is offered where a word is to stand
abbrev pub offers_for : Seat → List ℕ → List Offer
offers_for seat text = offered_in seat.field seat.machine text

abbrev pub completions_of_deck : QueriedText → Position → List Data
completions_of_deck deck position = completions_at deck.encoding deck.document.now position

-- units of a line are within others
pub record IsWithin (whole units : Units) : Type 0 where
  pub starts : whole.start ≤ units.start
  pub forward : units.start ≤ units.end
  pub ends : units.end ≤ whole.end

-- values are told behind others
abbrev pub AddsTold : List Data → List Value → List Value → Type 0
AddsTold more old new = map view new ≡ map view old ++ more

-- the lines on which the symbol around a position of a deck stands
abbrev pub mentions_of_deck : QueriedText → Position → List Mention
mentions_of_deck deck position = mentions_at deck.encoding deck.document.now position

-- what is shown beside a line of a deck, from 0
abbrev pub hint_of_deck : QueriedText → ℕ → List Data
hint_of_deck deck = hint_at deck.encoding deck.document.now

-- what borrowed texts are
abbrev pub texts : List (Bor (List ℕ)) → List (List ℕ)
texts borrowed = map (λ text. text.now) borrowed

-- actions and edits of a deck, as they are told
abbrev pub action_in_deck : QueriedText → Action → Data
action_in_deck deck = action_json deck.encoding deck.uri.now deck.document.now

abbrev pub edit_in_deck : QueriedText → LineEdit → Data
edit_in_deck deck = edit_json deck.encoding deck.document.now

-- names are inserted into others
abbrev pub InsertsNames : List Name → List Name → List Name → Type 0
InsertsNames names old new = new ≡ insert_all same_name old names
