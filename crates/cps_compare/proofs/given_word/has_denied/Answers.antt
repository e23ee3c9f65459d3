use Rattle.std.proofs.Common.{◌≡◌, ℕ, Bool, ◌||◌, false, true, sym, ap, ◌∙◌, arith}
use Rattle.std.specs.List.{list_any, range_with_len}
use Rattle.cps_claims.specs.Shown.{kept_digit, is_denied}
use Rattle.cps_claims.proofs.SlotLemmas.{all-places}
use Rattle.cps_compare.proofs.GivenLemmas.{any-place, any-here}
use Rattle.cps_compare.proofs.given_word.has_denied.Goals as goal

pub returns-then-is_denied : goal.returns-then-is_denied
returns-then-is_denied c =
    let test : ℕ → Bool = λ place. is_denied (kept_digit c.args.word.now place) in
    let here : test c.loop-place.place ≡ true = ap is_denied (sym c.digit.ensures) ∙ sym c.is_denied.ensures ∙ c.if-is_denied.true in
    sym (ap (list_any test) (sym all-places) ∙ any-here test c.loop-place.place 20 here (omega arith))

pub loop-place-preserved : goal.loop-place-preserved
loop-place-preserved c =
    let test : ℕ → Bool = λ place. is_denied (kept_digit c.args.word.now place) in
    let here : test c.loop-place.place ≡ false = ap is_denied (sym c.digit.ensures) ∙ sym c.is_denied.ensures ∙ c.if-is_denied.false in
    any-place test c.loop-place.place ∙ (λ i. c.loop-place.invariant i || here i)

pub returns : goal.returns
returns c =
    let test : ℕ → Bool = λ place. is_denied (kept_digit c.args.word.now place) in
    let end : c.loop-place.place ≡ 20 = omega arith in
    sym (ap (list_any test) (sym all-places) ∙ ap (λ n. list_any test (range_with_len 0 n)) (sym end) ∙ c.loop-place.invariant)
