use Rattle.std.proofs.Common.{List, subst}
use Rattle.std.specs.Prelude.{OnOk}
use Rattle.cps_state.specs.declared.key.OpenRange.{OpenRange}
use Rattle.cps_state.specs.Code.Line.{Hands}
use Rattle.cps_pass.specs.Ranges.{closed}
use Rattle.cps_pass.specs.Scope.{asking_ranges}
use Rattle.cps_pass.proofs.ScopeLemmas.{handed-on}
use Rattle.cps_pass.proofs.ranges.close_range.Goals as goal

pub returns : goal.returns
returns g c =
    let state = g.L.Lookup.answer in
    let asked = c.ask_ranges.new.recorder in
    let new = c.close.new.recorder in
    let with_ranges = closed c.args.scope.now c.args.location in
    let does : List OpenRange → Type 0 = λ ranges. OnOk c.close.result (Hands (with_ranges ranges) c.close.new.scope state asked new) in
    handed-on (asking_ranges c.args.scope.now) c.in_ok-ranges.ranges with_ranges c.close.new.scope state c.args.recorder.now asked new c.close.result
    c.in_ok-ranges.ensures (subst does c.as_slice.ensures c.close.ensures)
