-- Terms of an expression, and the texts that write them. From the manual's section on expressions.
use Rattle.std.specs.Prelude.{ℕ, ◌+◌, Bool, true, false, ◌==◌, List, [], ◌∷◌, map, filter_map, slice_index, codes, Option, None, Some, option_map, option_and_then, if◌then◌else◌}
use Rattle.std.specs.List.{list_any}
use Rattle.cps_text.specs.declared.name.Name.{Name}
use Rattle.cps_text.specs.Name.{name_of}
use Rattle.cps_text.specs.Text.{among}
use Rattle.cps_expr.specs.declared.radix.Radix.{Radix}
use Rattle.cps_expr.specs.declared.term.Element.{Element}
use Rattle.cps_expr.specs.declared.term.Element.TheVariants.{Number, Symbol, Counter}
use Rattle.cps_expr.specs.declared.term.Operator.{Operator}
use Rattle.cps_expr.specs.declared.term.Operator.TheVariants.{Times, Over}
use Rattle.cps_expr.specs.declared.term.Factor.{Factor}
use Rattle.cps_expr.specs.Limits.{greatest_plain}
use Rattle.cps_expr.specs.Number.{number_of}
use Rattle.cps_expr.specs.OperandList.{with_first}

-- a term: its sign, its first element, and the elements behind it, each with its operator
pub record Term : Type 0 where
  pub is_minus : Bool
  pub first : Element
  pub factors : List Factor

-- ---- what stands in a term

abbrev pub elements : Term → List Element
elements term = term.first ∷ map (λ factor. factor.element) term.factors

abbrev pub name_in : Element → Option Name
name_in (Number n) = None
name_in (Symbol name) = Some name
name_in Counter = None

abbrev pub is_counter : Element → Bool
is_counter (Number n) = false
is_counter (Symbol name) = false
is_counter Counter = true

abbrev pub term_names : Term → List Name
term_names term = filter_map name_in (elements term)

abbrev pub term_has_counter : Term → Bool
term_has_counter term = list_any is_counter (elements term)

-- ---- a text cut into tokens: each operator by itself, and what stands between them

abbrev pub is_operator : ℕ → Bool
is_operator = among (codes "*/")

-- tokens with a character before them that is no operator
abbrev pub onto_token : ℕ → List (List ℕ) → List (List ℕ)
onto_token character [] = (character ∷ []) ∷ []
onto_token character (token ∷ tokens) =
    if is_operator (slice_index token 0) then (character ∷ []) ∷ token ∷ tokens else (character ∷ token) ∷ tokens

abbrev pub tokens_of : List ℕ → List (List ℕ)
tokens_of [] = []
tokens_of (character ∷ text) = if is_operator character then (character ∷ []) ∷ tokens_of text else onto_token character (tokens_of text)

-- ---- elements and operators

abbrev pub star : ℕ
star = slice_index (codes "*") 0

abbrev pub slash : ℕ
slash = slice_index (codes "/") 0

abbrev pub is_star : List ℕ → Bool
is_star [] = false
is_star (character ∷ []) = character == star
is_star (first ∷ second ∷ text) = false

abbrev pub number_or_symbol : Option ℕ → Option Name → Option Element
number_or_symbol (Some n) name = Some (Number n)
number_or_symbol None name = option_map Symbol name

-- an element: `*`, a number up to the greatest, or a symbol
abbrev pub element_of : Radix → List ℕ → Option Element
element_of radix text = if is_star text then Some Counter else number_or_symbol (number_of (greatest_plain + 1) radix text) (name_of text)

abbrev pub operator_of : List ℕ → Option Operator
operator_of [] = None
operator_of (character ∷ []) = if character == star then Some Times else (if character == slash then Some Over else None)
operator_of (first ∷ second ∷ text) = None

abbrev pub factor_of : Radix → List ℕ → List ℕ → Option Factor
factor_of radix operator element =
    option_and_then (λ o. option_map (λ e. record { operator = o; element = e }) (element_of radix element)) (operator_of operator)

-- ---- the term: elements and operators take turns, from an element to an element

abbrev pub factors_of : Radix → List (List ℕ) → Option (List Factor)
factors_of radix [] = Some []
factors_of radix (operator ∷ []) = None
factors_of radix (operator ∷ element ∷ tokens) = with_first (factor_of radix operator element) (factors_of radix tokens)

abbrev pub term_with : Bool → Option Element → Option (List Factor) → Option Term
term_with is_minus first factors =
    option_and_then (λ e. option_map (λ fs. record { is_minus = is_minus; first = e; factors = fs }) factors) first

abbrev pub term_of_tokens : Radix → Bool → List (List ℕ) → Option Term
term_of_tokens radix is_minus [] = None
term_of_tokens radix is_minus (element ∷ tokens) = term_with is_minus (element_of radix element) (factors_of radix tokens)

-- the term that a text without signs writes
abbrev pub term_of : Radix → Bool → List ℕ → Option Term
term_of radix is_minus text = term_of_tokens radix is_minus (tokens_of text)
