use Rattle.std.proofs.Common.{arith, List, ℕ, ap, length}
use Rattle.cps_input.proofs.PartLemmas.{count-parts}
use Rattle.cps_input.proofs.line_text.LineText.line.Goals as goal

pub part_at-requires-clause-within : goal.part_at-requires-clause-within
part_at-requires-clause-within c =
    let count = count-parts 0 c.self.inside.ends.items c.self.inside.text.items in
    let lines = ap (λ (lines : List (List ℕ)). length lines) c.self.view_is in
    let long = ap (λ (ends : List ℕ). length ends) c.deref-2.ensures.value in
    omega (arith, count, lines, long, c.requires)
