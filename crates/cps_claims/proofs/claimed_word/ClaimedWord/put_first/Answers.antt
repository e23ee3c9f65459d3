use Rattle.std.proofs.Common.{◌≡◌, ℕ, ◌<◌, ◌&&◌, ◌||◌, eqb, not, true, false, cond, length, get_or, sym, ap, ◌∙◌, arith, rules, eqb-true}
use Rattle.cps_claims.specs.declared.claimed_word.ClaimedDigit.{ClaimedDigit}
use Rattle.cps_claims.specs.Parts.{is_octal}
use Rattle.cps_claims.specs.Code.Slots.{nothing, is_free, is_new, is_contrary, with_digit, first_of}
use Rattle.cps_claims.proofs.SlotLemmas.{slots-put, or-true}
use Rattle.cps_claims.proofs.claimed_word.ClaimedWord.put_first.Goals as goal

free-blank : (slot : ClaimedDigit) → is_free slot ≡ true → slot.shown ≡ 32
free-blank slot free = eqb-true slot.shown 32 free

free-new : (slot : ClaimedDigit) (digit : ℕ) → is_free slot ≡ true → is_new slot digit ≡ true
free-new slot digit free =
    ap (λ shown. not (is_octal shown) && (is_octal digit || not (eqb shown 63))) (free-blank slot free) ∙ or-true (is_octal digit)

free-not-contrary : (slot : ClaimedDigit) (digit : ℕ) → is_free slot ≡ true → is_contrary slot digit ≡ false
free-not-contrary slot digit free = ap (λ shown. is_octal shown && is_octal digit && not (eqb digit shown)) (free-blank slot free)

pub returns : goal.returns
returns c =
    let digits = c.args.self.now.digits in
    let place = c.args.place in
    let digit = c.args.digit in
    let slot = get_or digits place nothing in
    let long : length digits ≡ 20 = search rules in
    let within : place < length digits = omega (arith, long, c.requires.place) in
    let new = free-new slot digit c.requires.free in
    let contrary = free-not-contrary slot digit c.requires.free in
    let slots = slots-put digits place digit c.with_first.result within (c.with_first.ensures ∙ ap (λ slot. with_digit slot digit) c.digit.ensures) in
    λ i. record {
      slots = slots i;
      first = c.first_of-self.ensures i;
      last = sym (ap (λ b. cond b c.args.row c.args.self.now.last_row) new) i;
      again = sym (ap (λ b. cond b (first_of c.args.self.now.again_row c.args.row) c.args.self.now.again_row) contrary) i;
    }
