use Rattle.std.proofs.Common.{◌≡◌, inl, inr, length, sym, ap, ◌∙◌, arith, rules, vec_len}
use Rattle.std.proofs.lemmas.Bool.{cases_eq, cases_lt}
use Rattle.cps_claims.specs.Counts.{is_given}
use Rattle.cps_claims.proofs.SlotLemmas.{word-given, past-given}
use Rattle.cps_claims.proofs.claimed_words.ClaimedWords.first.Goals as goal

pub returns-then-is_given-clause-first : goal.returns-then-is_given-clause-first
returns-then-is_given-clause-first c = λ claims holds. record {
  here = sym (word-given c.args.self.now claims holds c.loop-address.address c.word.result c.is_given.result c.word.ensures.state c.is_given.ensures) ∙ c.if-is_given.true;
  before = λ other below. c.loop-address.invariant claims holds other below;
}

pub loop-address-preserved : goal.loop-address-preserved
loop-address-preserved c = λ claims holds other below.
    elim (cases_eq other c.loop-address.address) [
      | inl same ↦
          ap (is_given claims) same
          ∙ sym (word-given c.args.self.now claims holds c.loop-address.address c.word.result c.is_given.result c.word.ensures.state c.is_given.ensures) ∙ c.if-is_given.false
      | inr apart ↦ c.loop-address.invariant claims holds other (omega arith)
    ]

pub returns-clause-first : goal.returns-clause-first
returns-clause-first c = λ claims holds address.
    let long : vec_len c.args.self.now.words ≡ length c.args.self.now.words.items = search rules in
    let end = c.end-address-end.ensures.end in
    elim (cases_lt address c.loop-address.address) [
      | inl below ↦ c.loop-address.invariant claims holds address below
      | inr past ↦ past-given c.args.self.now claims holds address (omega (arith, long, end, past, c.loop-address-test.false))
    ]
