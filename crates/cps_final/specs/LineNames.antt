-- The symbols that a line reads, and those that it defines. Our own.
use Rattle.std.specs.Prelude.{List, [], ◌∷◌, ◌++◌, flat_map}
use Rattle.cps_text.specs.declared.name.Name.{Name}
use Rattle.cps_expr.specs.Value.{same_name}
use Rattle.cps_state.specs.declared.item.Item.{Item}
use Rattle.cps_state.specs.declared.key.Key.{Key}
use Rattle.cps_state.specs.declared.key.Put.{Put}
use Rattle.cps_state.specs.declared.key.Key.TheVariants as key
use Rattle.cps_state.specs.Course.{Trace}
use Rattle.cps_state.specs.Made.{content_names}
use Rattle.cps_final.specs.Distinct.{distinct}

-- the names that the expressions of statements, or of a line, read later
abbrev pub names_later : List Item → List Name
names_later items = flat_map (λ item. flat_map content_names item.made.contents) items

abbrev pub later_names : Trace → List Name
later_names trace = names_later trace.items

-- the symbols that a line reads, now or later, each once
abbrev pub read_by : List Name → List Item → List Name
read_by reads items = distinct same_name (reads ++ names_later items)

abbrev pub names_read : Trace → List Name
names_read trace = read_by trace.reads trace.items

-- the symbol whose value a key is
abbrev pub symbol_put : Key → List Name
symbol_put (key.Label name) = name ∷ []
symbol_put (key.Setting name) = name ∷ []
symbol_put _ = []

-- the symbols that a line defines, each once
abbrev pub defined_by : List Put → List Name
defined_by puts = distinct same_name (flat_map (λ p. symbol_put p.key) puts)

abbrev pub names_defined : Trace → List Name
names_defined trace = defined_by trace.puts

-- both
pub record LineSymbols : Type 0 where
  pub defined : List Name
  pub read : List Name
