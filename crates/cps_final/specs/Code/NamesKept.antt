-- For the code, not part of what a reader believes: names of which one alone, or a few, are kept apart.
use Rattle.std.specs.Prelude.{List, [], ◌∷◌}
use Rattle.cps_text.specs.declared.name.Name.{Name}
use Rattle.cps_final.specs.declared.kept_names.NameSlots.{NameSlots}
use Rattle.cps_final.specs.declared.kept_names.NameSlots.TheVariants.{Empty, One, Several}

abbrev pub names_in : NameSlots → List Name
names_in Empty = []
names_in (One name) = name ∷ []
names_in (Several names) = names.value.items

-- a few names, or many where there are some
abbrev pub few_or_many : List Name → List Name → List Name
few_or_many few [] = few
few_or_many few (name ∷ names) = name ∷ names
