use Rattle.std.proofs.Common.{◌≡◌, ◌+◌, ◌-◌, ◌<◌, ◌≤◌, [], ◌∷◌, ◌++◌, length, sym, ap, ◌∙◌, append_assoc, arith}
use Rattle.std.specs.List.{range_with_len}
use Rattle.cps_claims.proofs.ListedLemmas.{range-more}
use Rattle.cps_claims.proofs.listed_digit.push_lacking.Goals as goal

pub loop-place-preserved : goal.loop-place-preserved
loop-place-preserved c =
    let at = c.loop-place.place in
    let from = length c.args.text.now in
    let behind : from ≤ at = c.loop-place.auto.place in
    let below : at < length c.args.deck.now = c.loop-place-test.true in
    let next : at - from + 1 ≡ at + 1 - from = omega (arith, behind) in
    let here : from + (at - from) ≡ at = omega (arith, behind) in
    let old = c.args.found.now.items in
    record {
      places = c.in_ok-push.ensures.items ∙ ap (λ l. l ++ at ∷ []) c.loop-place.invariant.places
          ∙ append_assoc old (range_with_len from (at - from)) (at ∷ [])
          ∙ ap (λ n. old ++ (range_with_len from (at - from) ++ n ∷ [])) (sym here)
          ∙ ap (λ l. old ++ l) (sym (range-more from (at - from)))
          ∙ ap (λ n. old ++ range_with_len from n) next;
      within = omega (arith, behind, below);
    }

pub returns : goal.returns
returns c =
    let at = c.loop-place.place in
    let from = length c.args.text.now in
    let behind : from ≤ at = c.loop-place.auto.place in
    let within = c.loop-place.invariant.within in
    let past = c.loop-place-test.false in
    let same : at - from ≡ length c.args.deck.now - from = omega (arith, behind, within, past) in
    c.loop-place.invariant.places ∙ ap (λ n. c.args.found.now.items ++ range_with_len from n) same
