use Rattle.std.proofs.Common.{◌++◌, List, map, ap, subst, sym, ◌∙◌}
use Rattle.std.proofs.lemmas.List.Sorted.{All-permutation, IsPermutation-trans}
use Rattle.serde_json.specs.View.{view}
use Rattle.serde_json.specs.declared.value.Value.{Value}
use Rattle.cps_server.specs.Outline.{IsTree}
use Rattle.cps_server.specs.Code.Outlining.{IsPlaced, row_json}
use Rattle.cps_server.proofs.OutlineLemmas.{tree-made}
use Rattle.cps_server.proofs.outline_tree.tell_tree.Goals as goal

pub take_rows-requires : goal.take_rows-requires
take_rows-requires c =
    let rows = c.args.rows.items in
    let sorted = c.reverse.new.self.items in
    let same = IsPermutation-trans rows c.sort_by_key.new.self.items sorted c.in_ok-sort_by_key.ensures.permutation c.reverse.ensures.permutation in
    All-permutation IsPlaced rows sorted same c.requires

pub returns : goal.returns
returns c =
    let rows = c.args.rows.items in
    let sorted = c.reverse.new.self.items in
    let same = IsPermutation-trans rows c.sort_by_key.new.self.items sorted c.in_ok-sort_by_key.ensures.permutation c.reverse.ensures.permutation in
    let front = c.in_ok-told.told.items in
    let rest = c.in_ok-rest.rest.items in
    let sections = c.in_ok-sections.sections.items in
    subst (λ (told : List Value). IsTree (map row_json rows) (map view told))
    (sym (c.in_ok-append-2.ensures.items ∙ ap (λ (told : List Value). told ++ sections) c.in_ok-append.ensures.items))
    (tree-made _ _ rows sorted c.take_rows.new.rows.items c.tell_sections.new.rows.items front rest sections same c.in_ok-told.ensures c.in_ok-sections.ensures c.in_ok-rest.ensures)
