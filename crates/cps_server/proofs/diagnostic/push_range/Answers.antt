use Rattle.std.proofs.Common.{ℕ, List, ◌++◌, ap, ◌∙◌}
use Rattle.std.specs.Prelude.{codes}
use Rattle.std.specs.Fmt.{decimal}
use Rattle.std.proofs.lemmas.Result.{on_ok_weaker}
use Rattle.cps_server.proofs.WritingLemmas.{on-ok-items, range-appended}
use Rattle.cps_server.proofs.diagnostic.push_range.Goals as goal

pub returns : goal.returns
returns c =
    let old = c.args.text.now.items in
    let at = c.args.stretch in
    let one = c.in_ok-push_decimal.ensures ∙ (λ i. c.in_ok-extend_from_slice.ensures.items i ++ decimal (c.from.ensures i)) in
    let two = c.in_ok-push_decimal-2.ensures
    ∙ (λ i. (c.in_ok-extend_from_slice-2.ensures.items ∙ ap (λ (t : List ℕ). t ++ codes ",\"line\":") one) i ++ decimal (c.from-2.ensures i)) in
    let three = c.in_ok-push_decimal-3.ensures
    ∙ (λ i. (c.in_ok-extend_from_slice-3.ensures.items ∙ ap (λ (t : List ℕ). t ++ codes "},\"start\":{\"character\":") two) i ++ decimal (c.from-3.ensures i)) in
    let four = c.in_ok-push_decimal-4.ensures
    ∙ (λ i. (c.in_ok-extend_from_slice-4.ensures.items ∙ ap (λ (t : List ℕ). t ++ codes ",\"line\":") three) i ++ decimal (c.from-4.ensures i)) in
    on_ok_weaker c.extend_from_slice-5.result
    (λ last. last ∙ ap (λ (t : List ℕ). t ++ codes "}}") four
    ∙ range-appended old (codes "{\"end\":") (codes "{\"character\":") (codes ",\"line\":") (codes "}") (codes ",\"start\":") (decimal at.end) (decimal at.last)
    (decimal at.start) (decimal at.line))
    (on-ok-items c.extend_from_slice-5.result c.extend_from_slice-5.new.self.items c.push_decimal-4.new.text.items (codes "}}") c.extend_from_slice-5.ensures.items)
