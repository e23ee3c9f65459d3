use Rattle.std.proofs.Common.{◌≡◌, ◌+◌, ◌-◌, ◌≤◌, [], ◌∷◌, ◌++◌, subst, sym, ap, ◌∙◌, arith}
use Rattle.std.specs.List.{filter, range_with_len}
use Rattle.cps_compare.specs.Code.Runs.{AreCompared}
use Rattle.cps_compare.specs.Code.Surveys.{AreFew, ListsAndCounts}
use Rattle.cps_compare.proofs.ToldLemmas.{range-more}
use Rattle.cps_compare.proofs.RunLemmas.{compared-none, compared-more, compared-same}
use Rattle.cps_compare.proofs.sides.Sides.survey.Goals as goal
use Rattle.cps_compare.proofs.sides.Sides.survey.Goals.{then-counts+in_ok-push, else-counts}

pub loop-address-init : goal.loop-address-init
loop-address-init c =
    let none : 0 ≡ c.args.span.low - c.args.span.low = omega arith in
    record {
      few = subst (AreFew c.new-tallies.result) none c.new-tallies.ensures.few;
      within = omega arith;
      survey = λ assembly found kept.
          subst (λ n. ListsAndCounts found (range_with_len c.args.span.low n) c.new-words.result.items c.new-tallies.result) none
          (record { listed = subst (AreCompared found []) (sym c.new-words.ensures.items) (compared-none found); counted = c.new-tallies.ensures.tallies found });
    }

pub loop-address-preserved : goal.loop-address-preserved
loop-address-preserved c =
    let low = c.args.span.low in
    let at = c.loop-address.address in
    let from : low ≤ at = c.loop-address.auto.address in
    let below = c.loop-address-test.true in
    let was = c.loop-address.invariant in
    let next : at + 1 - low ≡ at - low + 1 = omega (arith, from) in
    let here : low + (at - low) ≡ at = omega (arith, from) in
    let range : range_with_len low (at - low) ++ at ∷ [] ≡ range_with_len low (at + 1 - low) =
    ap (λ n. range_with_len low (at - low) ++ n ∷ []) (sym here) ∙ sym (range-more low (at - low)) ∙ ap (range_with_len low) (sym next) in
    record {
      few = subst (AreFew c.add.new.self) (sym next) (c.add.ensures.few (at - low) was.few);
      within = omega (arith, from, below);
      survey = λ assembly found kept.
          let among = range_with_len low (at - low) in
          let before = was.survey assembly found kept in
          let counts = c.in_ok-counts.ensures assembly found kept in
          subst (λ among. ListsAndCounts found among c.if-counts.words.items c.add.new.self) range
          (record {
            listed = elim c.if-counts.branch [
              | then-counts+in_ok-push w ↦
                  subst (AreCompared found (filter found.is_compared (among ++ at ∷ []))) (sym ((λ i. (w.words-is i).items) ∙ w.in_ok-push.ensures.items))
                  (compared-more found among c.loop-address.words.items (record { address = at; differs = c.in_ok-counts.counts.differs }) before.listed
                  (sym counts.compared ∙ w.if-counts.true) counts.differs)
              | else-counts w ↦
                  subst (AreCompared found (filter found.is_compared (among ++ at ∷ []))) (sym (λ i. (w.words-is i).items))
                  (compared-same found among at c.loop-address.words.items before.listed (sym counts.compared ∙ w.if-counts.false))
            ];
            counted = c.add.ensures.tallies found among before.counted counts;
          });
    }

pub returns-clause-survey : goal.returns-clause-survey
returns-clause-survey c = λ assembly found kept.
    let within = c.loop-address.invariant.within in
    let past = c.loop-address-test.false in
    let from = c.loop-address.auto.address in
    let end : c.loop-address.address - c.args.span.low ≡ c.args.span.high + 1 - c.args.span.low = omega (arith, within, past, from) in
    subst (λ n. ListsAndCounts found (range_with_len c.args.span.low n) c.loop-address.words.items c.loop-address.tallies) end
    (c.loop-address.invariant.survey assembly found kept)
