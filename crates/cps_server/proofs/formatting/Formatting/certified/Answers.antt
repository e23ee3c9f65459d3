use Rattle.std.proofs.Common.{[], subst, sym}
use Rattle.std.proofs.lemmas.List.Elements.{All-nil}
use Rattle.cps_server.specs.Code.Spacing.{AreFormats, StandsIn}
use Rattle.cps_server.proofs.SpacingLemmas.{spaced-itself}
use Rattle.cps_server.proofs.formatting.Formatting.certified.Goals as goal

pub loop-init : goal.loop-init
loop-init c =
    let none : AreFormats c.args.self.deck c.args.self.range [] = record {
      alone = spaced-itself c.args.self.deck.document.now;
      within = All-nil (StandsIn c.args.self.range);
    } in
    subst (AreFormats c.args.self.deck c.args.self.range) (sym c.new-kept.ensures.items) none
