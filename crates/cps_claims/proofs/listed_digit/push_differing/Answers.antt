use Rattle.std.proofs.Common.{[], ◌∷◌, ◌++◌, cond, sym, ap, ◌∙◌, append_assoc, append-nil}
use Rattle.std.specs.List.{filter, range_with_len}
use Rattle.cps_claims.specs.ListedPlaces.{differs_in}
use Rattle.cps_claims.proofs.ListedLemmas.{places-more}
use Rattle.cps_claims.proofs.listed_digit.push_differing.Goals as goal
use Rattle.cps_claims.proofs.listed_digit.push_differing.Goals.{then-differs_in+in_ok-push, else-differs_in}

pub loop-place-preserved : goal.loop-place-preserved
loop-place-preserved c =
    let at = c.loop-place.place in
    let test = differs_in c.args.deck.now c.args.text.now in
    let before = filter test (range_with_len 0 at) in
    let old = c.args.found.now.items in
    elim c.if-differs_in.branch [
      | then-differs_in+in_ok-push w ↦
          (λ i. (w.found-is i).items) ∙ w.in_ok-push.ensures.items ∙ ap (λ l. l ++ at ∷ []) c.loop-place.invariant
          ∙ append_assoc old before (at ∷ [])
          ∙ ap (λ b. old ++ (before ++ cond b (at ∷ []) [])) (sym (sym c.differs_in.ensures ∙ w.if-differs_in.true))
          ∙ ap (λ l. old ++ l) (sym (places-more test at))
      | else-differs_in w ↦
          (λ i. (w.found-is i).items) ∙ c.loop-place.invariant
          ∙ ap (λ l. old ++ l) (sym (append-nil before))
          ∙ ap (λ b. old ++ (before ++ cond b (at ∷ []) [])) (sym (sym c.differs_in.ensures ∙ w.if-differs_in.false))
          ∙ ap (λ l. old ++ l) (sym (places-more test at))
    ]
