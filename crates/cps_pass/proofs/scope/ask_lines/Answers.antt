use Rattle.std.proofs.Common.{ℕ, List, [], ◌∷◌, ◌++◌, ap, ◌∙◌}
use Rattle.cps_state.specs.Keys.{text_of}
use Rattle.cps_pass.proofs.ScopeLemmas.{lines-next}
use Rattle.cps_pass.proofs.scope.ask_lines.Goals as goal

pub loop-line-preserved : goal.loop-line-preserved
loop-line-preserved g c = λ next rest.
    let lines = c.loop-line.lines.items in
    lines-next c.loop-line.line c.args.count lines c.push.new.self.items g.L.Lookup.answer c.loop-line.recorder c.note.new.self c.loop-line-test.true c.in_ok-known.ensures.asks
    (c.in_ok-push.ensures.items ∙ ap (λ (text : List ℕ). lines ++ text ∷ []) (c.in_ok-text.ensures ∙ ap text_of (c.answer.ensures ∙ c.in_ok-known.ensures.answer))) next rest
    ∙ c.loop-line.invariant next rest
