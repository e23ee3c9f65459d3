use Rattle.std.proofs.Common.{◌≡◌, Bool, Option, Some, sym, ap, ◌∙◌}
use Rattle.cps_text.specs.declared.name.Name.{Name}
use Rattle.cps_state.specs.Course.{◌before◌, telling_if}
use Rattle.cps_state.specs.Code.Line.{runs}
use Rattle.cps_pass.specs.Located.{symbol_in, has_value, asking_taken}
use Rattle.cps_pass.proofs.located.is_taken.Goals as goal

pub returns-in_ok-tell_if-in-Some : goal.returns-in_ok-tell_if-in-Some
returns-in_ok-tell_if-in-Some g c = λ next rest.
    let state = g.L.Lookup.answer in
    let name = c.in-Some.name in
    let is : symbol_in c.args.location ≡ Some name = sym c.symbol_in.ensures ∙ c.in-Some.is in
    ap (λ (symbol : Option Name). runs (asking_taken symbol next rest) state c.args.recorder.now) is
    ∙ c.in_ok-definition-in-Some.ensures (λ definition. telling_if (has_value definition) name before next (has_value definition)) rest
    ∙ ap (λ (taken : Bool). runs (telling_if taken name (next taken rest)) state c.ask_definition.new.recorder) (sym c.has_value-is_taken.ensures)
    ∙ c.in_ok-tell_if-in-Some.ensures (next c.has_value-is_taken.result rest)
