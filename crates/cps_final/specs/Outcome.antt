-- Pass two of a line: its rows, its bits and its symbols, and what they depend on. Our own.
use Rattle.std.specs.Prelude.{◌≡◌, All, not, List, [], ◌∷◌, ◌++◌, map, flat_map, filter, fold, Option}
use Rattle.std.specs.List.{list_any}
use Rattle.cps_text.specs.declared.name.Name.{Name}
use Rattle.cps_expr.specs.Value.{same_name}
use Rattle.cps_code.specs.Image.{Piece}
use Rattle.cps_state.specs.declared.flags.Flags.{Flags}
use Rattle.cps_state.specs.declared.item.Item.{Item}
use Rattle.cps_state.specs.declared.item.Stand.{Stand}
use Rattle.cps_state.specs.declared.item.Stand.TheVariants.{Nowhere, In}
use Rattle.cps_state.specs.declared.made.Shown.{Shown}
use Rattle.cps_state.specs.declared.made.Shown.TheVariants as shown
use Rattle.cps_state.specs.Course.{Trace}
use Rattle.cps_state.specs.Flags.{joined}
use Rattle.cps_state.specs.Made.{Made, no_flags, content_names, content_literals}
use Rattle.cps_final.specs.declared.row.Row.{Row}
use Rattle.cps_final.specs.Finals.{label, block, literal}
pub use Rattle.cps_final.specs.Values.{Resolved}
use Rattle.cps_final.specs.Rows.{rows_of}
use Rattle.cps_final.specs.Pieces.{pieces_of}
use Rattle.cps_final.specs.LineNames.{names_read, names_defined}

-- the rows and the bits of a line
pub record Output : Type 0 where
  pub rows : List Row
  pub pieces : List Piece

-- of a line with these statements
abbrev pub output_of : Resolved → List Item → Output
output_of finals items = record { rows = flat_map (rows_of finals) items; pieces = flat_map (pieces_of finals) items }

pub record Outcome : Type 0 where
  pub rows : List Row
  pub pieces : List Piece
  pub defined : List Name
  pub read : List Name

abbrev pub outcome_of : Resolved → Trace → Outcome
outcome_of finals trace = record {
  rows = flat_map (rows_of finals) trace.items;
  pieces = flat_map (pieces_of finals) trace.items;
  defined = names_defined trace;
  read = names_read trace;
}

-- flags, and those of rows
abbrev pub joined_with : Flags → List Row → Flags
joined_with flags rows = fold (λ all row. joined all row.flags) flags rows

-- the flags of a line are those of all its rows
abbrev pub flags_of : List Row → Flags
flags_of rows = joined_with no_flags rows

-- ---- what a line depends on

-- the symbols that contents read and that stand for their labels
abbrev pub labels_read : Made → List Name
labels_read made = filter (λ name. not (list_any (λ held. same_name held.name name) made.held)) (flat_map content_names made.contents)

-- the block of a value that a row shows
abbrev pub blocks_shown : Shown → List (Option Name)
blocks_shown shown.Nothing = []
blocks_shown (shown.Value value) = value.block ∷ []
blocks_shown (shown.Address value) = value.block ∷ []
blocks_shown shown.Start = []

-- the block in which a statement stands
abbrev pub blocks_stood : Stand → List (Option Name)
blocks_stood Nowhere = []
blocks_stood (In name) = name ∷ []

-- the blocks in which a statement and its values stand
abbrev pub blocks_named : Item → List (Option Name)
blocks_named item = blocks_stood item.stand ++ blocks_shown item.made.shown ++ map (λ held. held.value.block) item.made.held

-- two ways of giving final values agree on the labels, the blocks and the literals that a statement names
pub record AgreeOnItem (others finals : Resolved) (item : Item) : Type 0 where
  pub labels : All (λ name. others (label name) ≡ finals (label name)) (labels_read item.made)
  pub blocks : All (λ name. others (block name) ≡ finals (block name)) (blocks_named item)
  pub literals : All (λ word. others (literal word) ≡ finals (literal word)) (flat_map content_literals item.made.contents)

abbrev pub AgreeOnNamed : Resolved → Resolved → Trace → Type 0
AgreeOnNamed others finals trace = All (AgreeOnItem others finals) trace.items
