use Rattle.std.proofs.Common.{◌≡◌, ◌-◌, inl, inr, length, sym, ap, ◌∙◌, arith, rules, vec_len}
use Rattle.std.proofs.lemmas.Bool.{cases_eq}
use Rattle.cps_claims.specs.Counts.{is_given}
use Rattle.cps_claims.proofs.SlotLemmas.{word-given, past-given}
use Rattle.cps_claims.proofs.claimed_words.ClaimedWords.last.Goals as goal

pub loop-address-init : goal.loop-address-init
loop-address-init c = λ claims holds other past.
    let long : vec_len c.args.self.now.words ≡ length c.args.self.now.words.items = search rules in
    let end = c.end-address.ensures.end in
    past-given c.args.self.now claims holds other (omega (arith, long, end, past))

pub returns-then-is_given-clause-last : goal.returns-then-is_given-clause-last
returns-then-is_given-clause-last c = λ claims holds. record {
  here = sym (word-given c.args.self.now claims holds (c.loop-address.address - 1) c.word.result c.is_given.result c.word.ensures.state c.is_given.ensures) ∙ c.if-is_given.true;
  behind = λ other past. c.loop-address.invariant claims holds other (omega arith);
}

pub loop-address-preserved : goal.loop-address-preserved
loop-address-preserved c = λ claims holds other from.
    elim (cases_eq other (c.loop-address.address - 1)) [
      | inl same ↦
          ap (is_given claims) same
          ∙ sym (word-given c.args.self.now claims holds (c.loop-address.address - 1) c.word.result c.is_given.result c.word.ensures.state c.is_given.ensures) ∙ c.if-is_given.false
      | inr apart ↦ c.loop-address.invariant claims holds other (omega arith)
    ]
