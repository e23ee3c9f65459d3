use Rattle.std.proofs.Common.{◌≡◌, ◌+◌, ◌-◌, ◌<◌, length, get_or, [], sym, ap, ◌∙◌, arith}
use Rattle.std.proofs.lemmas.Bool.Decides.{nat_tests}
use Rattle.std.specs.Prelude.{vec_len}
use Rattle.cps_rpc.specs.Lines.{source_of}
use Rattle.cps_rpc.proofs.LineLemmas.{texts, length-texts, last-text, text_lines-kept}
use Rattle.cps_rpc.proofs.SourceLemmas.{length-source_empty, length-source_filled}
use Rattle.cps_rpc.proofs.buffer.Buffer.source_len.Goals as goal

pub returns-then-is_empty : goal.returns-then-is_empty
returns-then-is_empty c =
    let kept = c.self.inside.lines in
    let lines = texts kept.items in
    let line = c.index.result.now in
    let same = length-texts kept.items in
    let last : c.len-last.result - 1 ≡ length kept.items - 1 = ap (λ n. n - 1) (c.len-last.ensures ∙ kept.ok.0) in
    let some : 0 < length kept.items = omega (arith, same, c.self.invariant.some) in
    let none : vec_len line ≡ 0 = grind (arith, nat_tests) in
    let here : length (get_or lines (length lines - 1) []) ≡ 0 = sym (ap length (last-text kept.items _ line some last c.index.ensures)) ∙ sym line.ok.0 ∙ none in
    last ∙ ap (λ n. n - 1) (sym same) ∙ sym (ap (λ l. length (source_of l)) (text_lines-kept kept.items _ c.self.view_is c.self.invariant) ∙ length-source_empty lines c.self.invariant.some here)

pub returns-else-is_empty : goal.returns-else-is_empty
returns-else-is_empty c =
    let kept = c.self.inside.lines in
    let lines = texts kept.items in
    let line = c.index.result.now in
    let same = length-texts kept.items in
    let last : c.len-last.result - 1 ≡ length kept.items - 1 = ap (λ n. n - 1) (c.len-last.ensures ∙ kept.ok.0) in
    let some : 0 < length kept.items = omega (arith, same, c.self.invariant.some) in
    let filled : 0 < vec_len line = grind (arith, nat_tests) in
    let here : 0 < length (get_or lines (length lines - 1) []) = omega (arith, filled, line.ok.0, ap length (last-text kept.items _ line some last c.index.ensures)) in
    let all : c.len-last.result - 1 + 1 ≡ length lines = omega (arith, last, some, same) in
    all ∙ sym (ap (λ l. length (source_of l)) (text_lines-kept kept.items _ c.self.view_is c.self.invariant) ∙ length-source_filled lines c.self.invariant.some here)
