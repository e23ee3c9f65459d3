-- A text that writes one element alone.
use Rattle.std.proofs.Common.{◌≡◌, Bool, false, List, [], ◌∷◌, ℕ, Some, inr, refl, sym, ap, append-nil}
use Rattle.cps_expr.specs.declared.radix.Radix.{Radix}
use Rattle.cps_expr.specs.declared.term.Element.{Element}
use Rattle.cps_expr.specs.Term.{Term, element_of, term_of}
use Rattle.cps_expr.specs.Expression.{terms_of, signed_texts}
use Rattle.cps_expr.specs.Grammar.{WritesTerm}
use Rattle.cps_expr.proofs.GrammarComplete.{term-complete, complete}
use Rattle.cps_expr.proofs.GrammarSound.{element-sound}

abbrev pub lone : Bool → Element → Term
lone minus element = record { is_minus = minus; first = element; factors = [] }

written : (radix : Radix) (minus : Bool) (text : List ℕ) (element : Element) → element_of radix text ≡ Some element → WritesTerm radix text (lone minus element)
written radix minus text element is = (text, [], sym (append-nil text), element-sound radix text element is, refl)

pub lone-term : (radix : Radix) (minus : Bool) (text : List ℕ) (element : Element) → element_of radix text ≡ Some element → term_of radix minus text ≡ Some (lone minus element)
lone-term radix minus text element is = term-complete radix text (lone minus element) (written radix minus text element is)

pub lone-expression : (radix : Radix) (text : List ℕ) (element : Element) → element_of radix text ≡ Some element → terms_of radix (signed_texts text) ≡ Some (lone false element ∷ [])
lone-expression radix text element is =
    complete radix text (lone false element ∷ [])
    (inr (text, [], ap (λ (t : List ℕ). 43 ∷ t) (sym (append-nil text)), written radix false text element is, refl))
