use Rattle.std.proofs.Common.{arith, ◌≤◌, ◌^◌, length, refl}
use Rattle.cps_chunk.proofs.SparseLemmas.{AreWithin-wider}
use Rattle.cps_live.proofs.AgainLemmas.{passed-fails, passed-ok}
use Rattle.cps_live.proofs.KeptLemmas.{entered-outcomes, outcome-places}
use Rattle.cps_live.proofs.kept_source.KeptSource.redo.Goals as goal

pub returns-in_err-outcomes-clause-work : goal.returns-in_err-outcomes-clause-work
returns-in_err-outcomes-clause-work c = passed-fails c.args.self.now c.args.cut.now _ c.from_residual.ensures.0 c.pass_two.ensures.work

pub places-requires-clause-places : goal.places-requires-clause-places
places-requires-clause-places c =
    let h = c.requires in
    let few : length c.args.self.now.lines.items ≤ 2 ^ 63 = omega (arith, h.few, c.args.self.now.lines.ok.0) in
    AreWithin-wider 0 (length c.args.self.now.lines.items) 0 (2 ^ 63) _ (omega arith) few (outcome-places h.kept h.cut _ c.in_ok-outcomes.ensures.made refl)

pub places-requires-clause-few : goal.places-requires-clause-few
places-requires-clause-few c =
    let h = c.requires in
    omega (
      arith,
      h.few,
      h.cut.recuts.order,
      h.cut.recuts.within,
      c.args.self.now.lines.ok.0,
      c.args.cut.now.lines.ok.0,
      c.in_ok-outcomes.outcomes.entered.ok.0,
      entered-outcomes h.kept h.cut c.in_ok-outcomes.ensures.made,
    )

pub returns-in_err-places-clause-work : goal.returns-in_err-places-clause-work
returns-in_err-places-clause-work c = passed-fails c.args.self.now c.args.cut.now _ c.from_residual-in_err-places.ensures.0 c.pass_two.ensures.work

pub returns-clause-work : goal.returns-clause-work
returns-clause-work c = passed-ok c.args.self.now c.args.cut.now c.in_ok-outcomes.ensures.work
