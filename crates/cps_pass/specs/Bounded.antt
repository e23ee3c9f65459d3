-- How much a line may be, and how often it asks. How deep expansions may stand, and how many statements a line may stand for, are our profile's.
use Rattle.std.specs.Prelude.{◌≡◌, ◌≤◌, ◌+◌, false, nat_lt, List, length, filter}
use Rattle.std.specs.List.{All, AllPairs}
use Rattle.cps_state.specs.declared.item.Item.{Item}
use Rattle.cps_state.specs.declared.key.Asked.{Asked}
use Rattle.cps_state.specs.Course.{deepest, most_statements}
use Rattle.cps_state.specs.Keys.{same_key}

-- the items of expansions
abbrev pub below_the_line : List Item → List Item
below_the_line items = filter (λ item. nat_lt 0 item.depth) items

-- with the line's own statement there is one more at most than an expansion may have; of those that stand in expansions there are no more than that, and
-- none is too deep
pub record AreFew (items : List Item) : Type 0 where
  pub all : length items ≤ most_statements + 1
  pub expanded : length (below_the_line items) ≤ most_statements
  pub shallow : All (λ item. item.depth ≤ deepest) items

-- no two asks of a line are of one key
abbrev pub EachOnce : List Asked → Type 0
EachOnce asks = AllPairs (λ earlier later. same_key earlier.key later.key ≡ false) asks
