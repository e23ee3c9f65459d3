use Rattle.cps_server.specs.Code.Spacing.{AreFormats}
use Rattle.cps_server.proofs.formatting.Formatting.certified.Given as goal

abbrev pub invariant-loop : goal.invariant-loop
invariant-loop l = AreFormats l.self.deck l.self.range l.kept.items
