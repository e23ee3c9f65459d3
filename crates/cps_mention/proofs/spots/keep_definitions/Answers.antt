use Rattle.std.proofs.Common.{rules}
use Rattle.std.proofs.lemmas.Fn.{filter_same}
use Rattle.cps_mention.specs.declared.spot.Spot.{Spot}
use Rattle.cps_mention.specs.Spots.{is_definition}
use Rattle.cps_mention.proofs.spots.keep_definitions.Goals as goal

pub returns : goal.returns
returns c = filter_same _ (λ (spot : Spot). is_definition spot.kind) _ (λ x b f' k. search rules) _ _ c.retain.ensures.filtered
