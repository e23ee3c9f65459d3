-- Whether a name of an expression has no value, term by term.
use Rattle.std.proofs.Common.{◌≡◌, Bool, List, [], ◌∷◌, ◌||◌, refl, sym, ap, ◌∙◌}
use Rattle.std.specs.Prelude.{filter_map, is_none}
use Rattle.std.specs.List.{list_any}
use Rattle.std.proofs.lemmas.List.Folds.{list_any-append}
use Rattle.cps_text.specs.declared.name.Name.{Name}
use Rattle.cps_expr.specs.declared.term.Element.{Element}
use Rattle.cps_expr.specs.declared.term.Element.TheVariants.{Number, Symbol, Counter}
use Rattle.cps_expr.specs.Term.{elements, name_in, term_names}
use Rattle.cps_expr.specs.Expression.{Expression, names_of}
use Rattle.cps_expr.specs.Value.{Values, has_undefined}
use Rattle.cps_expr.specs.Code.ValuedSoFar.{is_undefined, term_has_undefined}

module _ (values : Values) where
  abbrev lacks : Name → Bool
  lacks name = is_none (values name)

  in_elements : (found : List Element) → list_any (is_undefined values) found ≡ list_any lacks (filter_map name_in found)
  in_elements [] = refl
  in_elements (Number n ∷ found) = in_elements found
  in_elements (Symbol name ∷ found) = ap (λ rest. lacks name || rest) (in_elements found)
  in_elements (Counter ∷ found) = in_elements found

  pub in_terms : (terms : Expression) → list_any (term_has_undefined values) terms ≡ has_undefined values terms
  in_terms [] = refl
  in_terms (term ∷ terms) =
      ap (λ rest. term_has_undefined values term || rest) (in_terms terms)
      ∙ ap (λ first. first || has_undefined values terms) (in_elements (elements term))
      ∙ sym (list_any-append lacks (term_names term) (names_of terms))
