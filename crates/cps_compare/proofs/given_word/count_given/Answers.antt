use Rattle.std.proofs.Common.{◌≡◌, ◌+◌, cond, length, sym, ap, ◌∙◌, arith}
use Rattle.cps_claims.specs.Parts.{is_octal}
use Rattle.cps_claims.specs.Shown.{kept_digit, is_unknown, is_denied}
use Rattle.cps_list.specs.Listing.{trimmed}
use Rattle.cps_claims.proofs.SlotLemmas.{one-few}
use Rattle.cps_compare.proofs.GivenLemmas.{counts-place, counts-places}
use Rattle.cps_compare.proofs.given_word.count_given.Goals as goal

pub loop-place-preserved : goal.loop-place-preserved
loop-place-preserved c =
    let kept = kept_digit c.args.word.now in
    let at = c.loop-place.place in
    let was = c.loop-place.invariant in
    let one = c.one_if-known.ensures ∙ ap (λ b. cond b 1 0) (c.is_known.ensures ∙ ap (λ digit. is_octal digit.shown) c.digit-digit.ensures) in
    let two = c.one_if-unknown.ensures ∙ ap (λ b. cond b 1 0) (c.is_unknown.ensures ∙ ap is_unknown c.digit-digit.ensures) in
    let three = c.one_if-denied.ensures ∙ ap (λ b. cond b 1 0) (c.is_denied.ensures ∙ ap is_denied c.digit-digit.ensures) in
    let few_one = one-few (is_octal (kept at).shown) in
    let few_two = one-few (is_unknown (kept at)) in
    let few_three = one-few (is_denied (kept at)) in
    let less_one = was.few_known in
    let less_two = was.few_unknown in
    let less_three = was.few_denied in
    record {
      known = (λ i. was.known i + one i) ∙ sym (counts-place (λ place. is_octal (kept place).shown) at);
      unknown = (λ i. was.unknown i + two i) ∙ sym (counts-place (λ place. is_unknown (kept place)) at);
      denied = (λ i. was.denied i + three i) ∙ sym (counts-place (λ place. is_denied (kept place)) at);
      few_known = omega (arith, one, few_one, less_one);
      few_unknown = omega (arith, two, few_two, less_two);
      few_denied = omega (arith, three, few_three, less_three);
    }

pub returns : goal.returns
returns c =
    let kept = kept_digit c.args.word.now in
    let at = c.loop-place.place in
    let end : at ≡ 20 = omega arith in
    let was = c.loop-place.invariant in
    record {
      shown = c.filled_len-shown.ensures.len ∙ ap (λ digits. length (trimmed digits)) (c.deref.ensures.0 ∙ c.shown_digits.ensures);
      known = counts-places (λ place. is_octal (kept place).shown) at _ end was.known;
      unknown = counts-places (λ place. is_unknown (kept place)) at _ end was.unknown;
      denied = counts-places (λ place. is_denied (kept place)) at _ end was.denied;
    }
