use Rattle.std.proofs.Common.{subst}
use Rattle.cps_server.specs.Formats.{IsSpaced}
use Rattle.cps_server.proofs.formatting.Formatting.are_formats.Goals as goal

pub returns : goal.returns
returns c = λ so. record {
  alone = subst (IsSpaced c.args.self.deck.document.now) c.in_ok-after.ensures (c.in_ok-is_spaced.ensures c.if-not-branch.false);
  within = c.are_in_range.ensures c.if-not-are_in_range.false;
}
