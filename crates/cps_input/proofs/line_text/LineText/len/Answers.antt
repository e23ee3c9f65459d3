use Rattle.std.proofs.Common.{rules, ◌≡◌, List, ℕ, sym, ◌∙◌, ap, length}
use Rattle.cps_input.proofs.PartLemmas.{count-parts}
use Rattle.cps_input.proofs.line_text.LineText.len.Goals as goal

pub returns : goal.returns
returns c =
    let count : c.len.result ≡ length c.self.inside.ends.items = search rules in
    count ∙ sym (count-parts 0 c.self.inside.ends.items c.self.inside.text.items) ∙ ap (λ (lines : List (List ℕ)). length lines) c.self.view_is
