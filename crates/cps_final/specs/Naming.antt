-- What a statement names for pass two, and a test of all that. Our own.
use Rattle.std.specs.Prelude.{Bool, ◌&&◌, flat_map}
use Rattle.std.specs.List.{list_all}
use Rattle.cps_state.specs.declared.item.Item.{Item}
use Rattle.cps_state.specs.Made.{content_literals}
use Rattle.cps_final.specs.Finals.{Named, label, block, literal}
use Rattle.cps_final.specs.Outcome.{labels_read, blocks_named}

-- a test passes for all that a statement names: the labels that it reads, the blocks of its place and of its values, and its literals
abbrev pub all_named : (Named → Bool) → Item → Bool
all_named test item =
    list_all (λ name. test (label name)) (labels_read item.made)
    && (list_all (λ name. test (block name)) (blocks_named item)
    && list_all (λ word. test (literal word)) (flat_map content_literals item.made.contents))
