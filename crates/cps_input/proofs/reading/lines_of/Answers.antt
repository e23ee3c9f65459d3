use Rattle.std.proofs.Common.{arith, ◌++◌, ◌∷◌, [], List, ℕ, sym, ap, ◌∙◌, take, length, ◌<◌}
use Rattle.std.proofs.lemmas.List.{take_all, take_more}
use Rattle.cps_input.proofs.PartLemmas.{part-at}
use Rattle.cps_input.proofs.reading.lines_of.Goals as goal

pub loop-before-preserved : goal.loop-before-preserved
loop-before-preserved c =
    let lines = c.args.text.now in
    let at = c.loop-before.before in
    let line = c.line.result.now in
    let within : at < length lines = omega (arith, c.len-before-end.ensures, c.loop-before-test.true) in
    let front = take at lines in
    c.in-Ok-push.ensures.items ∙ ap (λ (ls : List (List ℕ)). ls ++ c.in-Ok.line ∷ []) c.loop-before.invariant
    ∙ ap (λ (l : List ℕ). front ++ l ∷ []) (c.in-Ok.ensures.ok ∙ part-at lines at line within c.line.ensures) ∙ sym (take_more lines at line within)

pub returns : goal.returns
returns c = c.loop-before.invariant ∙ take_all c.loop-before.before c.args.text.now (omega (arith, c.len-before-end.ensures, c.loop-before-test.false))
