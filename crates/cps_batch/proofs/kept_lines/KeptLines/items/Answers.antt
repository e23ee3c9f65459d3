use Rattle.std.proofs.Common.{arith, List, ℕ, ap, length}
use Rattle.cps_state.specs.declared.item.Item.{Item}
use Rattle.cps_state.specs.Code.Scratch.{statements_on}
use Rattle.cps_input.proofs.PartLemmas.{count-parts}
use Rattle.cps_batch.proofs.kept_lines.KeptLines.items.Goals as goal

pub part_at-requires-clause-within : goal.part_at-requires-clause-within
part_at-requires-clause-within c =
    let count = count-parts 0 c.self.inside.ends.items (statements_on c.self.inside.scratch) in
    let kept = ap (λ (kept : List (List Item)). length kept) c.self.view_is in
    let long = ap (λ (ends : List ℕ). length ends) c.deref.ensures.value in
    omega (arith, count, kept, long, c.requires)
