-- For the loop over terms, not part of what a reader believes: the terms of an expression that are left to read.
use Rattle.std.specs.Prelude.{ℕ, Bool, List, [], Option, None, Some, if◌then◌else◌}
use Rattle.cps_expr.specs.declared.radix.Radix.{Radix}
use Rattle.cps_expr.specs.Expression.{Expression, minus, plus, onto_first, cut_at_signs, terms_of}

abbrev pub sign_of : Bool → ℕ
sign_of is_minus = if is_minus then minus else plus

-- the terms of a text whose first term's sign is known
abbrev pub terms_left : Radix → Bool → List ℕ → Option Expression
terms_left radix is_minus text = terms_of radix (onto_first (sign_of is_minus) (cut_at_signs text))

-- the terms from a later sign on, if there is one
abbrev pub terms_behind : Radix → Option (Bool × List ℕ) → Option Expression
terms_behind radix None = Some []
terms_behind radix (Some rest) = terms_left radix rest.0 rest.1
