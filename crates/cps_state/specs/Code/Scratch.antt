-- For the code of pass one, not part of what a reader believes: what stands on a scratch.
use Rattle.std.specs.Prelude.{◌≡◌, ℕ, List, [], ◌∷◌, ◌++◌, take, drop}
use Rattle.cps_state.specs.declared.item.Item.{Item}
use Rattle.cps_state.specs.declared.key.Key.{Key}
use Rattle.cps_state.specs.Course.{Trace, dropped_item, first_item, unasked}

-- the keys that a line asked, the statements of the lines before it, and what it did without what stood at those keys
pub record Scratch : Type 0 where
  pub keys : List Key
  pub before : List Item
  pub line : Trace

-- a scratch without a line
abbrev pub blank_scratch : Scratch
blank_scratch = record { keys = []; before = []; line = record { asks = []; puts = []; items = []; reads = [] } }

-- the statements of all lines
abbrev pub statements_on : Scratch → List Item
statements_on scratch = scratch.before ++ scratch.line.items

-- a line stands on a scratch behind these statements
pub record StandsOn (scratch : Scratch) (front : List Item) (trace : Trace) : Type 0 where
  pub before : scratch.before ≡ front
  pub line : scratch.line ≡ unasked trace

-- the statements of the lines before, so many, and what is left of those of a line that is dropped
abbrev pub with_dropped : ℕ → List Item → Item → List Item
with_dropped begun items present = take begun items ++ dropped_item (first_item (drop begun items) present) ∷ []
