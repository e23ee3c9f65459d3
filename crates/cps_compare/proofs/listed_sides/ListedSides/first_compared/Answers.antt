use Rattle.std.proofs.Common.{◌≡◌, ◌<◌, ◌≤◌, inl, inr, sym, ap, ◌∙◌, arith}
use Rattle.std.proofs.lemmas.Bool.{cases_eq, cases_lt}
use Rattle.cps_compare.specs.ListedSides.{listed_findings}
use Rattle.cps_compare.proofs.ListingLemmas.{not-given, past-given}
use Rattle.cps_compare.proofs.listed_sides.ListedSides.first_compared.Goals as goal

pub loop-address-preserved : goal.loop-address-preserved
loop-address-preserved c = λ assembly sides kept other below.
    let address = c.loop-address.address in
    elim (cases_eq other address) [
      | inl same ↦ ap (listed_findings sides).is_compared same ∙ sym (c.is_compared.ensures assembly sides kept) ∙ c.if-is_compared.false
      | inr apart ↦ c.loop-address.invariant assembly sides kept other (omega arith)
    ]

pub returns-then-is_compared : goal.returns-then-is_compared
returns-then-is_compared c = λ assembly sides kept. record {
  here = sym (c.is_compared.ensures assembly sides kept) ∙ c.if-is_compared.true;
  before = λ other below. c.loop-address.invariant assembly sides kept other below;
}

pub returns : goal.returns
returns c = λ assembly sides kept address.
    past-given c.args.self.now assembly sides kept address
    (λ below. not-given sides address (c.loop-address.invariant assembly sides kept address (omega arith)))
