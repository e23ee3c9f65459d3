-- The items of a list of values.
use Rattle.std.proofs.Common.{◌≡◌, refl, ap, List, [], ◌∷◌}
use Rattle.serde_json.specs.Data.{Data}
use Rattle.serde_json.specs.View.{items_of}
use Rattle.cps_rpc.specs.Params.{items_in}

pub items-kept : (ds : List Data) → items_in (items_of ds) ≡ ds
items-kept [] = refl
items-kept (d ∷ ds) = ap (λ es. d ∷ es) (items-kept ds)
