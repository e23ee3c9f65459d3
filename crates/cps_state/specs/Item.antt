-- The statements that a line stands for: each with its depth, its text where that is not the line's own, the block of its place, and what it made. Our own.
use Rattle.std.specs.Prelude.{ℕ, List, Option}
use Rattle.cps_text.specs.declared.name.Name.{Name}
use Rattle.cps_state.specs.declared.flags.Flags.{Flags}
use Rattle.cps_state.specs.declared.item.Item.{Item}
use Rattle.cps_state.specs.declared.item.Stand.TheVariants.{Nowhere, In}
use Rattle.cps_state.specs.Flags.{joined}
use Rattle.cps_state.specs.Made.{Made, nothing_made, no_flags}

-- a statement that has begun
abbrev pub blank_item : ℕ → List ℕ → Item
blank_item depth text = record { depth = depth; text = text; stand = Nowhere; made = nothing_made no_flags }

-- with a place in a block
abbrev pub standing_in : Option Name → Item → Item
standing_in block item = record { depth = item.depth; text = item.text; stand = In block; made = item.made }

abbrev pub with_made : Made → Item → Item
with_made made item = record { depth = item.depth; text = item.text; stand = item.stand; made = made }

-- with more flags
abbrev pub with_flags : Flags → Item → Item
with_flags flags item = record { depth = item.depth; text = item.text; stand = item.stand; made = record item.made { flags = joined item.made.flags flags } }
