use Rattle.std.proofs.Common.{rules, arith, ◌≡◌, ◌++◌, ◌∷◌, [], List, ℕ, ◌∙◌, ap, length, length-append}
use Rattle.cps_input.specs.Code.Parts.{parts_at}
use Rattle.cps_input.proofs.PartLemmas.{rises-more, parts-more}
use Rattle.cps_input.proofs.line_text.LineText.push.Goals as goal

pub invariant_of-self-2 : goal.invariant_of-self-2
invariant_of-self-2 c =
    let text = c.self.inside.text.items in
    let line = c.args.line.now in
    let more = c.len.result in
    let texts : c.extend_from_slice.new.self.items ≡ text ++ line = search rules in
    let size : more ≡ length (c.extend_from_slice.new.self.items) = search rules in
    let ends : c.push_reserved.new.self.items ≡ c.self.inside.ends.items ++ more ∷ [] = search rules in
    let long = ap length texts in
    let rises = rises-more 0 (length text) more c.self.inside.ends.items c.self.invariant (omega (arith, size, long, length-append text line)) in
    rw (ends, ← size) rises

pub returns : goal.returns
returns c =
    let text = c.self.inside.text.items in
    let line = c.args.line.now in
    let more = c.len.result in
    let texts : c.extend_from_slice.new.self.items ≡ text ++ line = search rules in
    let size : more ≡ length (c.extend_from_slice.new.self.items) = search rules in
    let ends : c.push_reserved.new.self.items ≡ c.self.inside.ends.items ++ more ∷ [] = search rules in
    let made = parts-more 0 more c.self.inside.ends.items text line c.self.invariant (size ∙ ap length texts) in
    (λ i. parts_at 0 (ends i) (texts i)) ∙ made ∙ ap (λ (lines : List (List ℕ)). lines ++ line ∷ []) c.self.view_is
