-- Reading the factors of a term one by one.
use Rattle.std.proofs.Common.{◌≡◌, ℕ, true, false, List, [], ◌∷◌, length, Option, None, Some, refl, sym, arith}
use Rattle.std.specs.Prelude.{◌==◌, is_none, IsSome}
use Rattle.std.proofs.lemmas.Bool.Decides.{nat_tests}
use Rattle.cps_expr.specs.declared.radix.Radix.{Radix}
use Rattle.cps_expr.specs.declared.term.Factor.{Factor}
use Rattle.cps_expr.specs.Term.{tokens_of, factors_of}

pub some_of : {X : Type 0} (whole : Option X) → is_none whole ≡ false → IsSome whole
some_of None is = cc
some_of (Some x) is = refl

pub end-readable : (radix : Radix) (rest : List ℕ) (whole : Option (List Factor)) → (length rest == 0) ≡ true
    → is_none (factors_of radix (tokens_of rest)) ≡ is_none whole → IsSome whole
end-readable radix [] whole empty same = some_of whole (sym same)
end-readable radix (c ∷ rest) whole empty same = grind (arith, nat_tests)
