use Rattle.std.proofs.Common.{Bool, sym, ap, ◌∙◌}
use Rattle.cps_state.specs.declared.flags.Flags.{Flags}
use Rattle.cps_state.specs.Course.{fill}
use Rattle.cps_state.specs.Code.Line.{line_filled, runs}
use Rattle.cps_pass.specs.Located.{is_labelled}
use Rattle.cps_pass.specs.Symbols.{equate_flags, set_to, listing_value}
use Rattle.cps_pass.specs.ValueNow.{now_here}
use Rattle.cps_pass.proofs.symbols.set_symbol.Goals as goal

pub returns : goal.returns
returns g c = λ rest.
    let f = g.L.Lookup.answer in
    let location = c.args.context.location in
    let definition = c.in_ok-definition.definition in
    let value = c.in_ok-value.value in
    let given = c.set_known.new.recorder in
    c.in_ok-definition.ensures (λ stands. now_here c.args.context.control c.args.operand.now (λ v. set_to location stands v)) rest
    ∙ c.in_ok-value.ensures (λ v. set_to location definition v) rest
    ∙ c.in_ok-set_known.ensures (fill (listing_value (equate_flags location (is_labelled definition)) value) rest)
    ∙ ap (λ (labelled : Bool). runs rest f (line_filled given (listing_value (equate_flags location labelled) value))) (sym c.is_labelled.ensures)
    ∙ ap (λ (flags : Flags). runs rest f (line_filled given (listing_value flags value))) (sym c.equate_flags-flags.ensures)
    ∙ ap (λ r. runs rest f r) (sym c.list_value.ensures)
