-- For the loop over puts, not part of what a reader believes: a layout with the words that further puts give.
use Rattle.std.specs.Prelude.{ℕ, max, List, fold, Option, None, Some, unwrap_or, if◌then◌else◌}
use Rattle.cps_text.specs.declared.name.Name.{Name}
use Rattle.cps_expr.specs.Value.{same_name}
use Rattle.cps_state.specs.declared.key.Key.TheVariants as key
use Rattle.cps_state.specs.declared.key.Put.{Put}
use Rattle.cps_state.specs.Keys.{same_block}
use Rattle.cps_final.specs.Layout.{Layout, words_put, named_by}
use Rattle.indexmap.specs.IndexSet.{insert_all}
use Rattle.indexmap.specs.IndexMap.{IndexMap, keys, get}

abbrev pub grown : Layout → Put → Layout
grown layout p = record {
  named = insert_all same_name layout.named (named_by p.key);
  size = λ block. max (layout.size block) (words_put block p);
}

abbrev pub grown_by : Layout → List Put → Layout
grown_by layout puts = fold grown layout puts

-- the layout that the code keeps: the size of the nominal block, and the sizes of the named ones
abbrev pub size_kept : ℕ → (Name → Option ℕ) → Option Name → ℕ
size_kept nominal named None = nominal
size_kept nominal named (Some block) = unwrap_or (named block) 0

abbrev pub layout_kept : {S : Type 0} → ℕ → IndexMap Name ℕ S → Layout
layout_kept nominal named = record { named = keys named; size = size_kept nominal (get same_name named) }

-- a layout in which a block has so many words at least
abbrev pub grown_to : Layout → Option Name → ℕ → Layout
grown_to layout block words = record {
  named = insert_all same_name layout.named (named_by (key.Counter block));
  size = λ other. max (layout.size other) (if same_block other block then words else 0);
}

-- a layout in which blocks have at least the words that they have in another, the nominal one and these named ones
abbrev pub grown_as : Layout → List Name → Layout → Layout
grown_as other names layout = fold (λ (so_far : Layout) (name : Name). grown_to so_far (Some name) (other.size (Some name))) layout names

abbrev pub joined : Layout → Layout → Layout
joined layout other = grown_as other other.named (grown_to layout None (other.size None))
