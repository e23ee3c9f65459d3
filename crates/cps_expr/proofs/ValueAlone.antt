-- The value of an expression depends on its names alone.
use Rattle.std.proofs.Common.{◌≡◌, suc, List, [], ◌∷◌, ◌++◌, ◌||◌, Option, Some, pos, refl, ap, ◌∙◌, arith}
use Rattle.std.specs.Prelude.{map, fold, filter_map, is_none, unwrap_or}
use Rattle.std.specs.List.{list_any, cons_option}
use Rattle.cps_text.specs.declared.name.Name.{Name}
use Rattle.cps_expr.specs.declared.term.Element.{Element}
use Rattle.cps_expr.specs.declared.term.Element.TheVariants.{Number, Symbol, Counter}
use Rattle.cps_expr.specs.declared.term.Factor.{Factor}
use Rattle.cps_expr.specs.declared.value.Value.{Value}
use Rattle.cps_expr.specs.Term.{Term, name_in, term_names}
use Rattle.cps_expr.specs.Expression.{Expression, names_of}
use Rattle.cps_expr.specs.Value.{Values, AgreeOn, limited, plain, element_value, multiplied, added, both, term_value, value_in, has_undefined}

-- two ways of naming agree on each of some names
abbrev Agree : Values → Values → List Name → Type 0
Agree others values [] = Unit {0}
Agree others values (name ∷ names) = (others name ≡ values name) × Agree others values names

agree-each : (others values : Values) (names : List Name) → AgreeOn others values names → Agree others values names
agree-each others values [] each = tt
agree-each others values (name ∷ names) each = (each 0 name (omega arith), agree-each others values names (λ k d low. each (suc k) d (omega arith)))

agree-front : (others values : Values) (first rest : List Name) → Agree others values (first ++ rest) → Agree others values first × Agree others values rest
agree-front others values [] rest agree = (tt, agree)
agree-front others values (name ∷ first) rest agree = let more = agree-front others values first rest agree.1 in ((agree.0, more.0), more.1)

element-alone : (others values : Values) (here : Value) (element : Element) (rest : List Name) → Agree others values (cons_option (name_in element) rest)
    → (element_value others here element ≡ element_value values here element) × Agree others values rest
element-alone others values here (Number n) rest agree = (refl, agree)
element-alone others values here Counter rest agree = (refl, agree)
element-alone others values here (Symbol name) rest agree = (ap (λ found. limited (unwrap_or found (plain (pos 0)))) agree.0, agree.1)

abbrev step : Values → Value → Option Value → Factor → Option Value
step values here so_far factor = both (multiplied factor.operator) so_far (element_value values here factor.element)

factors-alone : (others values : Values) (here : Value) (factors : List Factor) (so_far : Option Value) → Agree others values (filter_map name_in (map (λ factor. factor.element) factors))
    → fold (step others here) so_far factors ≡ fold (step values here) so_far factors
factors-alone others values here [] so_far agree = refl
factors-alone others values here (factor ∷ factors) so_far agree =
    let first = element-alone others values here factor.element (filter_map name_in (map (λ f. f.element) factors)) agree in
    factors-alone others values here factors (step others here so_far factor) first.1
    ∙ ap (λ value. fold (step values here) (both (multiplied factor.operator) so_far value) factors) first.0

term-alone : (others values : Values) (here : Value) (term : Term) → Agree others values (term_names term) → term_value others here term ≡ term_value values here term
term-alone others values here term agree =
    let first = element-alone others values here term.first (filter_map name_in (map (λ f. f.element) term.factors)) agree in
    factors-alone others values here term.factors (element_value others here term.first) first.1
    ∙ ap (λ value. fold (step values here) value term.factors) first.0

abbrev add : Values → Value → Option Value → Term → Option Value
add values here so_far term = both (added term.is_minus) so_far (term_value values here term)

terms-alone : (others values : Values) (here : Value) (terms : Expression) (so_far : Option Value) → Agree others values (names_of terms)
    → fold (add others here) so_far terms ≡ fold (add values here) so_far terms
terms-alone others values here [] so_far agree = refl
terms-alone others values here (term ∷ terms) so_far agree =
    let parts = agree-front others values (term_names term) (names_of terms) agree in
    terms-alone others values here terms (add others here so_far term) parts.1
    ∙ ap (λ value. fold (add values here) (both (added term.is_minus) so_far value) terms) (term-alone others values here term parts.0)

pub value-alone : (others values : Values) (here : Value) (terms : Expression) → AgreeOn others values (names_of terms) → value_in others here terms ≡ value_in values here terms
value-alone others values here terms agree = terms-alone others values here terms (Some (plain (pos 0))) (agree-each others values (names_of terms) agree)

any-alone : (others values : Values) (names : List Name) → Agree others values names → list_any (λ name. is_none (others name)) names ≡ list_any (λ name. is_none (values name)) names
any-alone others values [] agree = refl
any-alone others values (name ∷ names) agree =
    ap (λ found. is_none found || list_any (λ n. is_none (others n)) names) agree.0 ∙ ap (λ rest. is_none (values name) || rest) (any-alone others values names agree.1)

pub undefined-alone : (others values : Values) (terms : Expression) → AgreeOn others values (names_of terms) → has_undefined others terms ≡ has_undefined values terms
undefined-alone others values terms agree = any-alone others values (names_of terms) (agree-each others values (names_of terms) agree)
