-- How large the blocks of a source are, and which named ones there are. From the manual's section on blocks; that a block has all words that
-- its counter passed, those skipped by ORG too, is our profile's.
use Rattle.std.specs.Prelude.{ℕ, ◌+◌, max, nat_lt, List, [], ◌∷◌, flat_map, Option, Some, if◌then◌else◌}
use Rattle.cps_text.specs.declared.name.Name.{Name}
use Rattle.cps_expr.specs.declared.machine.Machine.TheVariants.{Cp}
use Rattle.cps_expr.specs.Value.{same_name}
use Rattle.cps_code.specs.declared.place.Place.{Place}
use Rattle.cps_state.specs.declared.key.Key.{Key}
use Rattle.cps_state.specs.declared.key.Key.TheVariants as key
use Rattle.cps_state.specs.declared.key.Put.{Put}
use Rattle.cps_state.specs.Keys.{same_key, place_of}
use Rattle.cps_state.specs.Course.{Trace}
use Rattle.cps_final.specs.Distinct.{distinct}

-- all puts of some lines, in order
abbrev pub puts_of : List Trace → List Put
puts_of traces = flat_map (λ trace. trace.puts) traces

-- the words before a place; one that is begun counts whole
abbrev pub words_before : Place → ℕ
words_before place = if nat_lt 0 place.used then place.word + 1 else place.word

-- the words that a put gives a block; no machine has more than the central processor
abbrev pub words_put : Option Name → Put → ℕ
words_put block p = if same_key (key.Counter block) p.key then words_before (place_of Cp (Some p.answer)) else 0

-- a block's size: the most words that a put gives it
abbrev pub size_in : List Put → Option Name → ℕ
size_in [] block = 0
size_in (p ∷ puts) block = max (words_put block p) (size_in puts block)

-- the named block whose counter a key is
abbrev pub named_by : Key → List Name
named_by (key.Counter (Some block)) = block ∷ []
named_by _ = []

abbrev pub names_put : List Put → List Name
names_put puts = flat_map (λ p. named_by p.key) puts

-- the named blocks, in the order of their first puts
abbrev pub named_blocks : List Put → List Name
named_blocks puts = distinct same_name (names_put puts)

-- the named blocks and the sizes of all blocks
pub record Layout : Type 0 where
  pub named : List Name
  pub size : Option Name → ℕ

abbrev pub layout_of : List Put → Layout
layout_of puts = record { named = named_blocks puts; size = size_in puts }
