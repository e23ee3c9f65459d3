use Rattle.std.proofs.Common.{◌≡◌, Some, sym, ap, refl, ◌∙◌, arith}
use Rattle.cps_code.specs.Sum.{no_terms, term_with}
use Rattle.cps_expr.specs.Expression.{is_minus}
use Rattle.cps_code.specs.Code.Terms.{pushed}
use Rattle.cps_expr.proofs.TermsReading.{IsSignAt}
use Rattle.cps_code.proofs.SumReading.{joined, rest_sum, sum-start, joined-none, rest-bad, rest-end, rest-more, joined-one, joined-more}
use Rattle.cps_code.proofs.SetLemmas.{registers_kept}
use Rattle.cps_code.proofs.sum.read_sum.Goals as goal

pub terms-init : goal.terms-init
terms-init c = (
  no_terms,
  record { registers = refl; has_constant = refl; constant = c.new.ensures; digits = λ k d h. absurd (omega arith) },
  joined-none (rest_sum c.args.radix c.leading_sign-is_minus.result.0 c.leading_sign-is_minus.result.1.now)
      ∙ sum-start c.args.radix c.leading_sign-is_minus.result.0 c.args.text.now c.leading_sign-is_minus.result.1.now c.leading_sign-is_minus.ensures,
)

pub returns-then-not-add_term-clause-sum : goal.returns-then-not-add_term-clause-sum
returns-then-not-add_term-clause-sum c = λ sum is.
    let so_far = c.terms.invariant.0 in
    let at : IsSignAt c.terms.rest.now c.sign_at.result = record { within = c.sign_at.ensures.within; before = c.sign_at.ensures.before; found = c.sign_at.ensures.found } in
    let bad = c.if-not-add_term.ensures so_far c.terms.invariant.1 in
    rest-bad c.args.radix c.terms.is_minus c.sign_at.result c.terms.rest.now so_far sum at (rw c.split_at.ensures.front at bad) (c.terms.invariant.2 ∙ is)

pub returns-in-None-clause-sum : goal.returns-in-None-clause-sum
returns-in-None-clause-sum c =
    let so_far = c.terms.invariant.0 in
    let added = c.if-not-add_term.ensures so_far c.terms.invariant.1 in
    let term = added.0 in
    let is : Some term ≡ term_with c.args.radix c.terms.is_minus c.split_at.result.0.now = sym added.1 in
    let at : IsSignAt c.terms.rest.now c.sign_at.result = record { within = c.sign_at.ensures.within; before = c.sign_at.ensures.before; found = c.sign_at.ensures.found } in
    let last = rest-end c.args.radix c.terms.is_minus c.sign_at.result c.terms.rest.now term at
    (rw c.split_at.ensures.front at is) (rw c.split_at.ensures.back at c.in-None.ensures) in
    (pushed so_far term, sym (sym (joined-one so_far term) ∙ sym (ap (joined so_far) last) ∙ c.terms.invariant.2), added.2)

pub terms-preserved : goal.terms-preserved
terms-preserved c =
    let so_far = c.terms.invariant.0 in
    let added = c.if-not-add_term.ensures so_far c.terms.invariant.1 in
    let term = added.0 in
    let is : Some term ≡ term_with c.args.radix c.terms.is_minus c.split_at.result.0.now = sym added.1 in
    let at : IsSignAt c.terms.rest.now c.sign_at.result = record { within = c.sign_at.ensures.within; before = c.sign_at.ensures.before; found = c.sign_at.ensures.found } in
    let step = c.in-Some in
    let next = rest-more c.args.radix c.terms.is_minus c.sign_at.result step.sign c.terms.rest.now step.more.now term at
    (rw c.split_at.ensures.front at is) (rw c.split_at.ensures.back at step.ensures) in (
      pushed so_far term,
      added.2,
      sym (joined-more so_far term (rest_sum c.args.radix (is_minus step.sign) step.more.now)) ∙ sym (ap (joined so_far) next) ∙ c.terms.invariant.2,
    )

pub returns-in-None-clause-registers : goal.returns-in-None-clause-registers
returns-in-None-clause-registers c =
    let added = c.if-not-add_term.ensures c.terms.invariant.0 c.terms.invariant.1 in
    registers_kept c.add_term.new.kept.registers (pushed c.terms.invariant.0 added.0).registers added.2.registers added.2.digits
