-- Which texts write an expression: the rule. `Expression.antt` computes the same. From the manual's section on expressions.
use Rattle.std.specs.Prelude.{◌≡◌, ◌⊎◌, ℕ, ◌+◌, Bool, true, false, List, [], ◌∷◌, ◌++◌, codes, Some}
use Rattle.cps_text.specs.Name.{name_of}
use Rattle.cps_expr.specs.declared.radix.Radix.{Radix}
use Rattle.cps_expr.specs.declared.term.Element.{Element}
use Rattle.cps_expr.specs.declared.term.Element.TheVariants.{Number, Symbol, Counter}
use Rattle.cps_expr.specs.declared.term.Operator.{Operator}
use Rattle.cps_expr.specs.declared.term.Operator.TheVariants.{Times, Over}
use Rattle.cps_expr.specs.declared.term.Factor.{Factor}
use Rattle.cps_expr.specs.Limits.{greatest_plain}
use Rattle.cps_expr.specs.Number.{number_of}
use Rattle.cps_expr.specs.Term.{Term}
use Rattle.cps_expr.specs.Expression.{Expression}

-- an element is a number, a symbol or `*`
abbrev pub WritesElement : Radix → List ℕ → Element → Type 0
WritesElement radix text (Number n) = number_of (greatest_plain + 1) radix text ≡ Some n
WritesElement radix text (Symbol name) = name_of text ≡ Some name
WritesElement radix text Counter = text ≡ codes "*"

abbrev pub operator_text : Operator → List ℕ
operator_text Times = codes "*"
operator_text Over = codes "/"

-- factors: each an operator and an element
abbrev pub WriteFactors : Radix → List ℕ → List Factor → Type 0
WriteFactors radix text [] = text ≡ []
WriteFactors radix text (factor ∷ factors) =
    (element : List ℕ) × (rest : List ℕ) × (text ≡ operator_text factor.operator ++ (element ++ rest)) × WritesElement radix element factor.element × WriteFactors radix rest factors

-- a term without its sign: an element and factors
abbrev pub WritesTerm : Radix → List ℕ → Term → Type 0
WritesTerm radix text term =
    (first : List ℕ) × (rest : List ℕ) × (text ≡ first ++ rest) × WritesElement radix first term.first × WriteFactors radix rest term.factors

abbrev pub sign_text : Bool → List ℕ
sign_text true = codes "-"
sign_text false = codes "+"

-- terms, each with its sign
abbrev pub WriteTerms : Radix → List ℕ → List Term → Type 0
WriteTerms radix text [] = text ≡ []
WriteTerms radix text (term ∷ terms) =
    (written : List ℕ) × (rest : List ℕ) × (text ≡ sign_text term.is_minus ++ (written ++ rest)) × WritesTerm radix written term × WriteTerms radix rest terms

-- an expression: one term or more, where the first `+` may be left out
abbrev pub Writes : Radix → List ℕ → Expression → Type 0
Writes radix text [] = ⊥
Writes radix text (term ∷ terms) = WriteTerms radix text (term ∷ terms) ⊎ WriteTerms radix (codes "+" ++ text) (term ∷ terms)
