use Rattle.std.proofs.Common.{List, subst}
use Rattle.std.specs.Prelude.{OnOk}
use Rattle.cps_state.specs.declared.key.OpenRange.{OpenRange}
use Rattle.cps_state.specs.Code.Line.{Hands}
use Rattle.cps_pass.specs.Ranges.{opening}
use Rattle.cps_pass.specs.Scope.{asking_ranges}
use Rattle.cps_pass.proofs.ScopeLemmas.{handed-on}
use Rattle.cps_pass.proofs.ranges.open_range.Goals as goal

pub returns : goal.returns
returns g c =
    let state = g.L.Lookup.answer in
    let asked = c.ask_ranges.new.recorder in
    let new = c.open.new.recorder in
    let opening_with = opening c.args.context.control c.args.scope.now c.args.context.location c.args.test in
    let opens : List OpenRange → Type 0 = λ ranges. OnOk c.open.result (Hands (opening_with ranges) c.open.new.scope state asked new) in
    handed-on (asking_ranges c.args.scope.now) c.in_ok-others.others opening_with c.open.new.scope state c.args.recorder.now asked new c.open.result
    c.in_ok-others.ensures (subst opens c.as_slice-others.ensures c.open.ensures)
