use Rattle.std.proofs.Common.{rules, ◌≡◌, List, sym, ◌∙◌, ap, length}
use Rattle.cps_state.specs.declared.item.Item.{Item}
use Rattle.cps_state.specs.Code.Scratch.{statements_on}
use Rattle.cps_input.proofs.PartLemmas.{count-parts}
use Rattle.cps_batch.proofs.kept_lines.KeptLines.len.Goals as goal

pub returns : goal.returns
returns c =
    let count : c.len.result ≡ length c.self.inside.ends.items = search rules in
    count ∙ sym (count-parts 0 c.self.inside.ends.items (statements_on c.self.inside.scratch)) ∙ ap (λ (kept : List (List Item)). length kept) c.self.view_is
