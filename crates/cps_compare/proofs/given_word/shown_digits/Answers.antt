use Rattle.std.proofs.Common.{◌≡◌, ◌++◌, [], ◌∷◌, ap, ◌∙◌, arith}
use Rattle.cps_claims.specs.declared.claimed_word.ClaimedDigit.{ClaimedDigit}
use Rattle.cps_claims.specs.Shown.{kept_digit}
use Rattle.cps_compare.proofs.GivenLemmas.{maps-place, maps-places}
use Rattle.cps_compare.proofs.given_word.shown_digits.Goals as goal

pub loop-place-preserved : goal.loop-place-preserved
loop-place-preserved c =
    let less = c.loop-place.invariant.few in
    let long = c.push.ensures.len in
    record {
      digits = maps-place (λ place. (kept_digit c.args.word.now place).shown) c.loop-place.place c.loop-place.digits.items _ c.loop-place.invariant.digits
          (c.push.ensures.items ∙ ap (λ n. c.loop-place.digits.items ++ n ∷ []) (ap (λ (digit : ClaimedDigit). digit.shown) c.digit.ensures));
      few = omega (arith, less, long);
    }

pub returns : goal.returns
returns c =
    let end : c.loop-place.place ≡ 20 = omega arith in
    maps-places (λ place. (kept_digit c.args.word.now place).shown) c.loop-place.place _ end c.loop-place.invariant.digits
