use Rattle.std.proofs.Common.{rules, ◌≡◌, true, sym, ◌∙◌}
use Rattle.std.proofs.lemmas.Bool.{eqb-true}
use Rattle.cps_final.proofs.PlaceLemmas.{all-stand, same_pool}
use Rattle.cps_final.proofs.storage.Storage.places_stand.Goals as goal

pub returns : goal.returns
returns c same =
    let named : c.are_same_named.result ≡ true = search rules in
    let nominal = sym c.size.ensures ∙ eqb-true c.size.result c.size-2.result same ∙ c.size-2.ensures in
    all-stand _ _ (c.are_same_named.ensures named) nominal
    (same_pool _ _ c.pool.result.now c.pool-else-not-are_same_named.result.now c.pool.ensures c.pool-else-not-are_same_named.ensures c.if-ne.ensures)
