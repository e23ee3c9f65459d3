use Rattle.std.proofs.Common.{◌<◌, cond, None, inl, inr, sym, ap, ◌∙◌, arith}
use Rattle.std.specs.Prelude.{is_some, nat_lt}
use Rattle.std.proofs.lemmas.Bool.{cases_Bool, cases_eq}
use Rattle.std.proofs.lemmas.Bool.Decides.{nat_tests}
use Rattle.cps_code.specs.Image.{packed_word}
use Rattle.cps_state.specs.Machines.{limit}
use Rattle.cps_compare.specs.Differences.{word_of}
use Rattle.cps_compare.proofs.DeckLemmas.{none-is}
use Rattle.cps_compare.proofs.deck_words.DeckWords.first.Goals as goal

pub loop-address-preserved : goal.loop-address-preserved
loop-address-preserved c = λ pieces packed other below.
    let address = c.loop-address.address in
    elim (cases_eq other address) [
      | inl same ↦
          ap (word_of c.args.machine pieces) same ∙ sym (c.word.ensures pieces packed) ∙ none-is c.word.result (sym c.is_some.ensures ∙ c.if-is_some.false)
      | inr apart ↦ c.loop-address.invariant pieces packed other (omega arith)
    ]

pub returns-then-is_some : goal.returns-then-is_some
returns-then-is_some c = λ pieces packed. record {
  here = ap is_some (sym (c.word.ensures pieces packed)) ∙ sym c.is_some.ensures ∙ c.if-is_some.true;
  before = λ other below. ap is_some (c.loop-address.invariant pieces packed other below);
}

pub returns : goal.returns
returns c = λ pieces packed address.
    elim (cases_Bool (nat_lt address (limit c.args.machine))) [
      | inl here ↦ let below : address < limit c.args.machine = grind (arith, nat_tests) in
          c.loop-address.invariant pieces packed address (omega arith)
      | inr past ↦ ap (λ b. cond b (packed_word pieces address) None) past
    ]
