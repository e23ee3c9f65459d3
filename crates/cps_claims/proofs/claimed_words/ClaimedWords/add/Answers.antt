use Rattle.std.proofs.Common.{◌+◌, ◌/◌, ◌%◌, ◌≤◌, length, ap, ◌∙◌, subst, arith}
use Rattle.std.proofs.lemmas.Nat.{mod_below}
use Rattle.cps_claims.specs.Words.{size_of}
use Rattle.cps_claims.specs.Claims.{digits_from}
use Rattle.cps_claims.specs.Code.Slots.{state_at, with_digits, after}
use Rattle.cps_claims.proofs.SlotLemmas.{after-word}
use Rattle.cps_claims.proofs.claimed_words.ClaimedWords.add.Goals as goal

pub loop-left-preserved : goal.loop-left-preserved
loop-left-preserved c =
    let claim = c.args.claim in
    let at = c.loop-left.at in
    let left = c.loop-left.left.now in
    let count = c.fewer-count.result in
    let states = state_at c.loop-left.self.words.items in
    let same = c.word_size-size.ensures.size in
    let below = mod_below at c.word_size-size.result c.word_size-size.ensures.some in
    let first = c.fewer-count.ensures.first in
    let second = c.fewer-count.ensures.second in
    let in_code : at % c.word_size-size.result + count ≤ c.word_size-size.result = omega (arith, below, first) in
    let fit : at % size_of c.args.form + count ≤ size_of c.args.form = subst (λ n. at % n + count ≤ n) same in_code in
    let within : count ≤ length left = omega (arith, second) in
    let back_len = c.split_at.ensures.back_len in
    let counted = c.loop-left.invariant.count in
    record {
      claims =
          ap (λ behind. after (state_at c.put.new.words.items) (digits_from (size_of c.args.form) claim.row claim.address (at + count) behind)) c.split_at.ensures.back
          ∙ after-word (size_of c.args.form) claim.row claim.address at count left states (state_at c.put.new.words.items) within fit
          (c.in_ok-put.ensures.state
          ∙ (λ i. with_digits states claim.row (claim.address + at / same i) (at % same i) (c.split_at.ensures.front i)))
          ∙ c.loop-left.invariant.claims;
      count = omega (arith, back_len, counted, within);
    }
