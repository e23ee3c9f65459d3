use Rattle.std.proofs.Common.{◌≡◌, ◌-◌, inl, inr, sym, ap, ◌∙◌, arith}
use Rattle.std.proofs.lemmas.Bool.{cases_eq}
use Rattle.cps_compare.specs.ListedSides.{listed_findings}
use Rattle.cps_compare.proofs.ListingLemmas.{not-given, past-compared}
use Rattle.cps_compare.proofs.listed_sides.ListedSides.last_compared.Goals as goal

pub loop-address-init : goal.loop-address-init
loop-address-init c = λ assembly sides kept other past. past-compared c.args.self.now assembly sides kept other (omega arith)

pub loop-address-preserved : goal.loop-address-preserved
loop-address-preserved c = λ assembly sides kept other from.
    elim (cases_eq other (c.loop-address.address - 1)) [
      | inl same ↦ ap (listed_findings sides).is_compared same ∙ sym (c.is_compared.ensures assembly sides kept) ∙ c.if-is_compared.false
      | inr apart ↦ c.loop-address.invariant assembly sides kept other (omega arith)
    ]

pub returns-then-is_compared-clause-last : goal.returns-then-is_compared-clause-last
returns-then-is_compared-clause-last c = λ assembly sides kept. record {
  here = sym (c.is_compared.ensures assembly sides kept) ∙ c.if-is_compared.true;
  behind = λ other past. c.loop-address.invariant assembly sides kept other (omega arith);
}

pub returns-clause-last : goal.returns-clause-last
returns-clause-last c = λ assembly sides kept address.
    not-given sides address (c.loop-address.invariant assembly sides kept address (omega arith))
