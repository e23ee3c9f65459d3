use Rattle.std.proofs.Common.{ℕ, ◌≤◌, List, min, length, ap, subst, ◌∙◌, arith}
use Rattle.cps_text.specs.declared.limits.TheConstants.{MOST_LINES}
use Rattle.cps_rpc.specs.Lines.{source_lines, text_lines}
use Rattle.cps_server.specs.Code.Keeping.{AreTouched}
use Rattle.cps_server.proofs.SourceLemmas.{ends-behind, length-cards, source-put}
use Rattle.cps_server.proofs.KeepingLemmas.{touched-told}
use Rattle.cps_server.proofs.document.Document.change.Goals as goal

pub put_cards-requires-clause-ordered : goal.put_cards-requires-clause-ordered
put_cards-requires-clause-ordered c =
    let old = c.self.inside.buffer in
    let made = c.in_ok-first.ensures.lines in
    let within = c.source_is_replaced.ensures old c.change.new.self c.args.range c.in_ok-first.field-0 made in
    omega (arith, ends-behind (text_lines old) c.args.range, made.first, made.end, within.in_old, c.source_len-old_len.ensures, c.min.ensures)

pub put_cards-requires-clause-within : goal.put_cards-requires-clause-within
put_cards-requires-clause-within c =
    let source = source_lines c.self.inside.buffer in
    omega (arith, ap length c.self.invariant, length-cards source, c.source_len-old_len.ensures, c.min.ensures)

pub put_cards-requires-clause-still_few : goal.put_cards-requires-clause-still_few
put_cards-requires-clause-still_few c =
    let old = c.self.inside.buffer in
    let new = c.change.new.self in
    let replacement = c.in_ok-first.field-0 in
    let few : length (source_lines old) ≤ MOST_LINES = omega (arith, c.source_len-old_len.ensures) in
    let still : length (source_lines new) ≤ MOST_LINES = omega (arith, c.source_len.ensures) in
    let within = c.source_is_replaced.ensures old new c.args.range replacement c.in_ok-first.ensures.lines in
    let put = source-put old new c.self.inside.session.lines c.in_ok-cards.cards.items replacement c.min.result within c.self.invariant few still
    c.in_ok-cards.ensures (c.min.ensures ∙ ap (λ n. min replacement.end n) c.source_len-old_len.ensures) in
    omega (arith, ap length put, length-cards (source_lines new))

pub invariant_of-document : goal.invariant_of-document
invariant_of-document c =
    let old = c.self.inside.buffer in
    let new = c.change.new.self in
    let replacement = c.in_ok-first.field-0 in
    let few : length (source_lines old) ≤ MOST_LINES = omega (arith, c.source_len-old_len.ensures) in
    let still : length (source_lines new) ≤ MOST_LINES = omega (arith, c.source_len.ensures) in
    let within = c.source_is_replaced.ensures old new c.args.range replacement c.in_ok-first.ensures.lines in
    let put = source-put old new c.self.inside.session.lines c.in_ok-cards.cards.items replacement c.min.result within c.self.invariant few still
    c.in_ok-cards.ensures (c.min.ensures ∙ ap (λ n. min replacement.end n) c.source_len-old_len.ensures) in
    c.in_ok-session.ensures.lines ∙ put

pub returns-clause-lines : goal.returns-clause-lines
returns-clause-lines c =
    let old = c.self.inside.buffer in
    let new = c.change.new.self in
    let replacement = c.in_ok-first.field-0 in
    let few : length (source_lines old) ≤ MOST_LINES = omega (arith, c.source_len-old_len.ensures) in
    let still : length (source_lines new) ≤ MOST_LINES = omega (arith, c.source_len.ensures) in
    let within = c.source_is_replaced.ensures old new c.args.range replacement c.in_ok-first.ensures.lines in
    let last = c.min.ensures ∙ ap (λ n. min replacement.end n) c.source_len-old_len.ensures in
    let put = source-put old new c.self.inside.session.lines c.in_ok-cards.cards.items replacement c.min.result within c.self.invariant few still
    c.in_ok-cards.ensures last in
    let made = c.in_ok-first.ensures.lines in
    let ordered : replacement.first ≤ replacement.end = omega (arith, ends-behind (text_lines old) c.args.range, made.first, made.end) in
    subst (λ (text : List ℕ). AreTouched text new c.in_ok-session.touched) c.self.view_is
    (touched-told old new c.self.inside.session.lines _ c.in_ok-cards.cards.items replacement c.min.result c.in_ok-session.touched within c.self.invariant
    (c.in_ok-session.ensures.lines ∙ put) few c.in_ok-cards.ensures last ordered c.in_ok-session.ensures.lines c.in_ok-session.ensures.touched)
