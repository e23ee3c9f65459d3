use Rattle.std.proofs.Common.{[], Some, sym, ap, ◌∙◌}
use Rattle.std.specs.Prelude.{option_map}
use Rattle.cps_expr.specs.OperandList.{with_first}
use Rattle.cps_expr.specs.Expression.{terms_of, signed_texts}
use Rattle.cps_expr.specs.Term.{term_of}
use Rattle.cps_expr.specs.Code.TermsLeft.{terms_left, terms_behind}
use Rattle.cps_expr.proofs.FactorReading.{some_of}
use Rattle.cps_expr.proofs.TermsReading.{next-term, not_none}
use Rattle.cps_expr.proofs.expr.read_signed_terms.Goals as goal

pub terms-preserved : goal.terms-preserved
terms-preserved c =
    let radix = c.args.radix in
    let found = term_of radix c.terms.is_minus c.first_term.result.0.now in
    let next = next-term (terms_left radix c.terms.is_minus c.terms.rest.now) (terms_of radix (signed_texts c.args.text.now)) found
    (terms_left radix c.in-Some.sign c.in-Some.behind.now) c.terms.expression c.add_next.new.expression c.terms.is_refused c.add_next.new.is_refused
    (c.first_term.ensures.terms radix c.terms.is_minus ∙ ap (λ later. with_first found (terms_behind radix (option_map (λ rest. (rest.0, rest.1.now)) later))) c.in-Some.is)
    (sym c.add_next.ensures.readable ∙ c.if-not-add_next.false) c.add_next.ensures.added c.terms.invariant.readable c.terms.invariant.expression in
    record { readable = next.0; expression = next.1 }

pub returns-in-None-clause-memory : goal.returns-in-None-clause-memory
returns-in-None-clause-memory c = λ is.
    let radix = c.args.radix in
    let found = term_of radix c.terms.is_minus c.first_term.result.0.now in
    let next = next-term (terms_left radix c.terms.is_minus c.terms.rest.now) (terms_of radix (signed_texts c.args.text.now)) found
    (Some []) c.terms.expression c.add_next.new.expression c.terms.is_refused c.add_next.new.is_refused
    (c.first_term.ensures.terms radix c.terms.is_minus ∙ ap (λ later. with_first found (terms_behind radix (option_map (λ rest. (rest.0, rest.1.now)) later))) c.in-None.is)
    (sym c.add_next.ensures.readable ∙ c.if-not-add_next.false) c.add_next.ensures.added c.terms.invariant.readable c.terms.invariant.expression in
    some_of (terms_of radix (signed_texts c.args.text.now)) (sym next.0)

pub returns-in-None-clause-unreadable : goal.returns-in-None-clause-unreadable
returns-in-None-clause-unreadable c =
    let radix = c.args.radix in
    let found = term_of radix c.terms.is_minus c.first_term.result.0.now in
    let next = next-term (terms_left radix c.terms.is_minus c.terms.rest.now) (terms_of radix (signed_texts c.args.text.now)) found
    (Some []) c.terms.expression c.add_next.new.expression c.terms.is_refused c.add_next.new.is_refused
    (c.first_term.ensures.terms radix c.terms.is_minus ∙ ap (λ later. with_first found (terms_behind radix (option_map (λ rest. (rest.0, rest.1.now)) later))) c.in-None.is)
    (sym c.add_next.ensures.readable ∙ c.if-not-add_next.false) c.add_next.ensures.added c.terms.invariant.readable c.terms.invariant.expression in
    (λ is. absurd (c.finished.ensures.readable is), λ none. absurd (not_none (terms_of radix (signed_texts c.args.text.now)) (sym next.0) none))
