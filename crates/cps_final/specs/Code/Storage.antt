-- For the code that keeps final values, not part of what a reader believes: where blocks and literals stand, apart from what stands at keys.
use Rattle.std.specs.Prelude.{◌≡◌, ◌≤◌, ℕ, List, [], ◌∷◌, ◌++◌, length, Option, Some}
use Rattle.indexmap.specs.IndexMap.{spare}
use Rattle.indexmap.specs.IndexSet.{spare as set_spare}
use Rattle.cps_state.specs.declared.key.Put.{Put}
use Rattle.cps_state.specs.Course.{Trace}
use Rattle.cps_state.specs.Keys.{first_state}
use Rattle.cps_text.specs.declared.name.Name.{Name}
use Rattle.cps_final.specs.Finals.{Finals, finals_of, final_value, block, literal}
use Rattle.cps_final.specs.Layout.{Layout, names_put}
use Rattle.cps_final.specs.Code.Gathering.{joined, layout_kept}
use Rattle.cps_final.specs.declared.blocks.Blocks.{Blocks}
use Rattle.cps_final.specs.declared.storage.Storage.{Storage}

-- what is kept, as if nothing had been put
abbrev pub stored : Storage → Finals
stored storage = record {
  state = first_state;
  layout = layout_kept storage.blocks.nominal storage.blocks.named;
  pool = storage.pool.keys;
  program = storage.program;
}

-- it is that of these lines
abbrev pub IsStored : Storage → List Trace → Type 0
IsStored storage traces = stored storage ≡ record (finals_of traces) { state = first_state }

-- with one line more
abbrev pub StoresMore : Storage → Storage → Trace → Type 0
StoresMore old new trace = (traces : List Trace) → IsStored old traces → IsStored new (traces ++ trace ∷ [])

-- with that of lines behind
abbrev pub StoresBehind : Storage → Storage → Storage → Type 0
StoresBehind old other new = (before behind : List Trace) → IsStored old before → IsStored other behind → IsStored new (before ++ behind)

-- there is room for what a line puts, and for these literals
pub record HasRoom (storage : Storage) (puts : List Put) (literals : List ℕ) : Type 0 where
  pub blocks : length (names_put puts) ≤ spare storage.blocks.named
  pub pool : length literals ≤ set_spare storage.pool

-- blocks with the words of others behind them
abbrev pub AreJoined : Blocks → Blocks → Blocks → Type 0
AreJoined old other new = layout_kept new.nominal new.named ≡ joined (layout_kept old.nominal old.named) (layout_kept other.nominal other.named)

-- the same named blocks in the same order, each with as many words
pub record AreSameNamed (a b : Layout) : Type 0 where
  pub named : a.named ≡ b.named
  pub size : (name : Name) → a.size (Some name) ≡ b.size (Some name)

-- each block and each literal stands where it stood
pub record PlacesStand (was now : Finals) : Type 0 where
  pub blocks : (name : Option Name) → final_value was (block name) ≡ final_value now (block name)
  pub literals : (word : ℕ) → final_value was (literal word) ≡ final_value now (literal word)
