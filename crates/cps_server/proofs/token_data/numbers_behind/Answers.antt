use Rattle.std.proofs.Common.{List, [], ◌∷◌}
use Rattle.cps_server.proofs.token_data.numbers_behind.Goals as goal

pub returns : goal.returns
returns c =
    λ i. c.saturating_sub.ensures i ∷ c.units_behind.ensures i ∷ c.saturating_sub-2.ensures i ∷ c.number.ensures i ∷ c.modifiers.ensures i ∷ []
