-- For the code, not part of what a reader believes: items of which one alone is kept in place.
use Rattle.std.specs.Prelude.{List, [], ◌∷◌}
use Rattle.cps_final.specs.declared.kept_list.KeptItems.{KeptItems}
use Rattle.cps_final.specs.declared.kept_list.KeptItems.TheVariants.{One, Several}

abbrev pub items_in : {T : Type 0} → KeptItems T → List T
items_in (One item) = item ∷ []
items_in (Several items) = items.items
