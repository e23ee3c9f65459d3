use Rattle.std.proofs.Common.{arith, ◌≡◌, length, ap}
use Rattle.cps_live.specs.Edits.{Source}
use Rattle.cps_live.proofs.SessionLemmas.{length-outcomes}
use Rattle.cps_live.proofs.session.SessionView.count.Goals as goal

pub returns-clause-outcomes : goal.returns-clause-outcomes
returns-clause-outcomes c =
    let seen : length c.self.inside.kept.lines.items ≡ length c.args.self.now.lines = ap (λ (s : Source). length s.lines) c.self.view_is in
    omega (arith, c.len.ensures, c.self.inside.kept.lines.ok.0, seen, length-outcomes c.args.self.now.lines)
