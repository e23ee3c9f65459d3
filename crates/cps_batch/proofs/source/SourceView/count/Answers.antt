use Rattle.std.proofs.Common.{arith, ◌≡◌, length, ap, List, ℕ}
use Rattle.cps_batch.proofs.SourceLemmas.{length-outcomes}
use Rattle.cps_batch.proofs.source.SourceView.count.Goals as goal

pub returns-clause-outcomes : goal.returns-clause-outcomes
returns-clause-outcomes c =
    let seen : length c.self.inside.lines.items ≡ length c.args.self.now = ap (λ (lines : List (List ℕ)). length lines) c.self.view_is in
    omega (arith, c.len.ensures, c.self.inside.lines.ok.0, seen, length-outcomes c.args.self.now)
