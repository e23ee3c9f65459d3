use Rattle.std.proofs.Common.{◌≡◌, Bool, [], ◌∷◌, Some, sym, ap, ◌∙◌}
use Rattle.cps_expr.specs.declared.term.Signed.{Signed}
use Rattle.cps_expr.specs.Term.{element_of}
use Rattle.cps_expr.specs.Code.TermsKept.{element_term}
use Rattle.cps_expr.proofs.LoneElements.{lone, lone-term, lone-expression}
use Rattle.cps_expr.proofs.expr.lone_element.Goals as goal

pub returns-in-Some : goal.returns-in-Some
returns-in-Some c =
    let radix = c.args.radix in
    let text = c.args.text.now in
    let element = c.in-Some.element in
    let is : element_of radix text ≡ Some element = sym c.read_element.ensures ∙ c.in-Some.is in
    let made = sym c.new.ensures in
    record {
      term = lone-term radix c.args.is_minus text element is ∙ ap (λ (s : Signed). Some (element_term s)) made;
      expression = λ plus. lone-expression radix text element is ∙ ap (λ (minus : Bool). Some (lone minus element ∷ [])) (sym plus) ∙ ap (λ (s : Signed). Some (element_term s ∷ [])) made;
    }
