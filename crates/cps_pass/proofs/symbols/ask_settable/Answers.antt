use Rattle.std.proofs.Common.{◌≡◌, Bool, Option, Some, sym, ap, ◌∙◌}
use Rattle.cps_text.specs.declared.name.Name.{Name}
use Rattle.cps_state.specs.Course.{◌before◌, telling_if}
use Rattle.cps_state.specs.Code.Line.{runs}
use Rattle.cps_pass.specs.Located.{symbol_in, is_labelled}
use Rattle.cps_pass.specs.Symbols.{asking_settable}
use Rattle.cps_pass.proofs.symbols.ask_settable.Goals as goal

pub returns-in_ok-tell_if-in-Some : goal.returns-in_ok-tell_if-in-Some
returns-in_ok-tell_if-in-Some g c = λ next rest.
    let state = g.L.Lookup.answer in
    let name = c.in-Some.name in
    let definition = c.in_ok-definition-in-Some.definition in
    let is : symbol_in c.args.location ≡ Some name = sym c.symbol_in.ensures ∙ c.in-Some.is in
    ap (λ (symbol : Option Name). runs (asking_settable symbol next rest) state c.args.recorder.now) is
    ∙ c.in_ok-definition-in-Some.ensures (λ s. telling_if (is_labelled s) name before next s) rest
    ∙ ap (λ (labelled : Bool). runs (telling_if labelled name (next definition rest)) state c.ask_definition.new.recorder) (sym c.is_labelled.ensures)
    ∙ c.in_ok-tell_if-in-Some.ensures (next definition rest)
