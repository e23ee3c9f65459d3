use Rattle.std.proofs.Common.{◌≡◌, inl, inr, subst, sym, ap, ◌∙◌, arith}
use Rattle.std.proofs.lemmas.Bool.{cases_eq}
use Rattle.cps_claims.specs.Counts.{is_given}
use Rattle.cps_claims.specs.Code.Slots.{WordState, AnyPlace, is_known}
use Rattle.cps_claims.proofs.SlotLemmas.{given-held}
use Rattle.cps_claims.proofs.claimed_words.ClaimedWords.gives_some.Goals as goal

pub returns-then-is_given : goal.returns-then-is_given
returns-then-is_given c = λ claims holds.
    let address = c.loop-address.address in
    let given : c.is_given.result ≡ is_given claims address =
    given-held c.args.self.now claims holds address c.is_given.result
    (subst (λ (state : WordState). AnyPlace c.is_given.result (λ place. is_known (state.slots place))) c.word.ensures.state c.is_given.ensures) in
    let start = c.from-address.ensures in
    let stop = c.from-address-end.ensures in
    let after = c.loop-address.auto.address in
    (address, omega (arith, start, after), omega (arith, stop, c.loop-address-test.true), sym given ∙ c.if-is_given.true)

pub loop-address-preserved : goal.loop-address-preserved
loop-address-preserved c = λ claims holds other low below.
    let address = c.loop-address.address in
    let given : c.is_given.result ≡ is_given claims address =
    given-held c.args.self.now claims holds address c.is_given.result
    (subst (λ (state : WordState). AnyPlace c.is_given.result (λ place. is_known (state.slots place))) c.word.ensures.state c.is_given.ensures) in
    elim (cases_eq other address) [
      | inl same ↦ ap (is_given claims) same ∙ sym given ∙ c.if-is_given.false
      | inr apart ↦ c.loop-address.invariant claims holds other low (omega arith)
    ]
