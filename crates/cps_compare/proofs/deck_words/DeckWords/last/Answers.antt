use Rattle.std.proofs.Common.{◌≡◌, ◌-◌, ◌≤◌, cond, false, None, inl, inr, sym, ap, ◌∙◌, arith}
use Rattle.std.specs.Prelude.{is_some, nat_lt}
use Rattle.std.proofs.lemmas.Bool.{cases_eq}
use Rattle.std.proofs.lemmas.Bool.Decides.{nat_tests}
use Rattle.cps_code.specs.Image.{packed_word}
use Rattle.cps_state.specs.Machines.{limit}
use Rattle.cps_compare.specs.Differences.{word_of}
use Rattle.cps_compare.proofs.DeckLemmas.{none-is}
use Rattle.cps_compare.proofs.deck_words.DeckWords.last.Goals as goal

pub loop-address-init : goal.loop-address-init
loop-address-init c = λ pieces packed other past.
    let from : limit c.args.machine ≤ other = omega arith in
    let test : nat_lt other (limit c.args.machine) ≡ false = grind (arith, nat_tests) in
    ap (λ b. cond b (packed_word pieces other) None) test

pub loop-address-preserved : goal.loop-address-preserved
loop-address-preserved c = λ pieces packed other from.
    elim (cases_eq other (c.loop-address.address - 1)) [
      | inl same ↦
          ap (word_of c.args.machine pieces) same ∙ sym (c.word.ensures pieces packed) ∙ none-is c.word.result (sym c.is_some.ensures ∙ c.if-is_some.false)
      | inr apart ↦ c.loop-address.invariant pieces packed other (omega arith)
    ]

pub returns-then-is_some-clause-last : goal.returns-then-is_some-clause-last
returns-then-is_some-clause-last c = λ pieces packed. record {
  here = ap is_some (sym (c.word.ensures pieces packed)) ∙ sym c.is_some.ensures ∙ c.if-is_some.true;
  behind = λ other past. ap is_some (c.loop-address.invariant pieces packed other (omega arith));
}

pub returns-clause-last : goal.returns-clause-last
returns-clause-last c = λ pieces packed address. c.loop-address.invariant pieces packed address (omega arith)
