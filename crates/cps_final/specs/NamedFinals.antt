-- What the statements of a run of lines name for pass two, each once. Our own.
use Rattle.std.specs.Prelude.{◌≡◌, ℕ, nat_eq, Bool, ◌&&◌, List, flat_map, Option}
use Rattle.std.specs.List.{list_all}
use Rattle.std.specs.Option.{option_eq}
use Rattle.cps_text.specs.declared.name.Name.{Name}
use Rattle.cps_expr.specs.Value.{same_name}
use Rattle.cps_state.specs.declared.item.Item.{Item}
use Rattle.cps_state.specs.Course.{Trace}
use Rattle.cps_final.specs.Distinct.{distinct}
use Rattle.cps_final.specs.Finals.{Named, label, block, literal}
use Rattle.cps_final.specs.Outcome.{labels_read, blocks_named}
use Rattle.cps_final.specs.Pool.{literals_of}
use Rattle.cps_final.specs.Naming.{all_named}

-- the statements of lines that did this
abbrev pub statements_of : List Trace → List Item
statements_of traces = flat_map (λ trace. trace.items) traces

-- the labels that statements read, the blocks of their places and of their values, and their literals
pub record NamedFinals : Type 0 where
  pub labels : List Name
  pub blocks : List (Option Name)
  pub literals : List ℕ

-- those of some statements, each in the order of first appearance
abbrev pub labels_named : List Item → List Name
labels_named items = distinct same_name (flat_map (λ item. labels_read item.made) items)

abbrev pub all_blocks_named : List Item → List (Option Name)
all_blocks_named items = distinct (option_eq same_name) (flat_map blocks_named items)

abbrev pub literals_named : List Item → List ℕ
literals_named items = distinct nat_eq (flat_map (λ item. literals_of item.made) items)

-- those of lines that did this
abbrev pub names_in : List Trace → NamedFinals
names_in traces = record {
  labels = labels_named (statements_of traces);
  blocks = all_blocks_named (statements_of traces);
  literals = literals_named (statements_of traces);
}

-- whether a test passes for all of them
abbrev pub all_pass : (Named → Bool) → NamedFinals → Bool
all_pass passes names =
    list_all (λ name. passes (label name)) names.labels && (list_all (λ name. passes (block name)) names.blocks && list_all (λ word. passes (literal word)) names.literals)

-- a test passes for all of them exactly where it does for all that the statements name
abbrev pub NamesLaw : Type 0
NamesLaw = (passes : Named → Bool) (traces : List Trace) → all_pass passes (names_in traces) ≡ list_all (all_named passes) (statements_of traces)
