use Rattle.std.proofs.Common.{List, subst}
use Rattle.std.specs.Prelude.{OnOk}
use Rattle.cps_state.specs.declared.key.OpenRange.{OpenRange}
use Rattle.cps_state.specs.Code.Line.{Hands}
use Rattle.cps_pass.specs.Ranges.{turned_round}
use Rattle.cps_pass.specs.Scope.{asking_ranges}
use Rattle.cps_pass.proofs.ScopeLemmas.{handed-on}
use Rattle.cps_pass.proofs.ranges.turn_range.Goals as goal

pub returns : goal.returns
returns g c =
    let state = g.L.Lookup.answer in
    let asked = c.ask_ranges.new.recorder in
    let new = c.turn.new.recorder in
    let with_ranges = turned_round c.args.context.control c.args.scope.now c.args.context.location in
    let does : List OpenRange → Type 0 = λ ranges. OnOk c.turn.result (Hands (with_ranges ranges) c.turn.new.scope state asked new) in
    handed-on (asking_ranges c.args.scope.now) c.in_ok-ranges.ranges with_ranges c.turn.new.scope state c.args.recorder.now asked new c.turn.result
    c.in_ok-ranges.ensures (subst does c.as_slice.ensures c.turn.ensures)
