use Rattle.std.proofs.Common.{◌≡◌, ◌<◌, cond, length, ap, ◌∙◌, arith, rules}
use Rattle.cps_claims.specs.Code.Slots.{with_digit, is_new, is_contrary}
use Rattle.cps_claims.proofs.SlotLemmas.{slot-read, slots-put}
use Rattle.cps_claims.proofs.claimed_word.ClaimedWord.put_again.Goals as goal

pub returns : goal.returns
returns c =
    let digits = c.args.self.now.digits in
    let place = c.args.place in
    let digit = c.args.digit in
    let long : length digits ≡ 20 = search rules in
    let within : place < length digits = omega (arith, long, c.requires) in
    let same = slot-read digits place (record { shown = 0; again = 0 }) within in
    let new = c.is_new.ensures ∙ ap (λ slot. is_new slot digit) same in
    let contrary = c.is_contrary.ensures ∙ ap (λ slot. is_contrary slot digit) same in
    let slots = slots-put digits place digit c.with.result within (c.with.ensures ∙ ap (λ slot. with_digit slot digit) same) in
    λ i. record {
      slots = slots i;
      first = c.first_of-self.ensures i;
      last = (c.row_if-self.ensures ∙ ap (λ b. cond b c.args.row c.args.self.now.last_row) new) i;
      again = (c.row_if-self-2.ensures ∙ (λ j. cond (contrary j) (c.first_of.ensures j) c.args.self.now.again_row)) i;
    }
