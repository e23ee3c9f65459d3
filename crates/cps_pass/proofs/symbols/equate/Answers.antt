use Rattle.std.proofs.Common.{sym, ap, ◌∙◌}
use Rattle.cps_state.specs.declared.flags.Flags.{Flags}
use Rattle.cps_state.specs.Course.{fill}
use Rattle.cps_state.specs.Code.Line.{line_filled, runs}
use Rattle.cps_pass.specs.Symbols.{equate_flags, equate_to, listing_value}
use Rattle.cps_pass.specs.ValueNow.{now_here}
use Rattle.cps_pass.proofs.symbols.equate.Goals as goal

pub returns : goal.returns
returns g c = λ rest.
    let f = g.L.Lookup.answer in
    let location = c.args.context.location in
    let is_taken = c.in_ok-is_taken.is_taken in
    let value = c.in_ok-value.value in
    let defined = c.define_known.new.recorder in
    c.in_ok-is_taken.ensures (λ taken. now_here c.args.context.control c.args.operand.now (λ v. equate_to location taken v)) rest
    ∙ c.in_ok-value.ensures (λ v. equate_to location is_taken v) rest
    ∙ c.in_ok-define_known.ensures (fill (listing_value (equate_flags location is_taken) value) rest)
    ∙ ap (λ (flags : Flags). runs rest f (line_filled defined (listing_value flags value))) (sym c.equate_flags-flags.ensures)
    ∙ ap (λ r. runs rest f r) (sym c.list_value.ensures)
