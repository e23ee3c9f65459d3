-- For the loops over terms and factors, not part of what a reader believes: whether a name in them has no value.
use Rattle.std.specs.Prelude.{Bool, false, is_none}
use Rattle.std.specs.List.{list_any}
use Rattle.cps_expr.specs.declared.term.Element.{Element}
use Rattle.cps_expr.specs.declared.term.Element.TheVariants.{Number, Symbol, Counter}
use Rattle.cps_expr.specs.Term.{Term, elements}
use Rattle.cps_expr.specs.Value.{Values}

abbrev pub is_undefined : Values → Element → Bool
is_undefined values (Number n) = false
is_undefined values (Symbol name) = is_none (values name)
is_undefined values Counter = false

abbrev pub term_has_undefined : Values → Term → Bool
term_has_undefined values term = list_any (is_undefined values) (elements term)
