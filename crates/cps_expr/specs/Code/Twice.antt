-- For the code of parameters, not part of what a reader believes: names that stand twice.
use Rattle.std.specs.Prelude.{Bool, nat_lt, count_by, List}
use Rattle.cps_text.specs.declared.name.Name.{Name}
use Rattle.cps_text.specs.Name.{is_one}

-- whether a name is two of these
abbrev pub is_twice : List Name → Name → Bool
is_twice names name = nat_lt 1 (count_by (is_one name) names)
