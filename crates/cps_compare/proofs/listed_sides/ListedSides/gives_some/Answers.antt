use Rattle.std.proofs.Common.{◌≡◌, inl, inr, sym, ap, ◌∙◌, arith}
use Rattle.std.proofs.lemmas.Bool.{cases_eq}
use Rattle.cps_compare.specs.ListedSides.{listed_findings}
use Rattle.cps_compare.proofs.listed_sides.ListedSides.gives_some.Goals as goal

pub returns-then-gives : goal.returns-then-gives
returns-then-gives c = λ assembly sides kept.
    let address = c.loop-address.address in
    let start = c.from-address.ensures in
    let stop = c.from-address-end.ensures in
    let after = c.loop-address.auto.address in
    (address, omega (arith, start, after), omega (arith, stop, c.loop-address-test.true), sym (c.gives.ensures assembly sides kept) ∙ c.if-gives.true)

pub loop-address-preserved : goal.loop-address-preserved
loop-address-preserved c = λ assembly sides kept other low below.
    let address = c.loop-address.address in
    elim (cases_eq other address) [
      | inl same ↦ ap (listed_findings sides).is_given same ∙ sym (c.gives.ensures assembly sides kept) ∙ c.if-gives.false
      | inr apart ↦ c.loop-address.invariant assembly sides kept other low (omega arith)
    ]
