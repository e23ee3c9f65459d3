use Rattle.std.proofs.Common.{◌≡◌, ◌≤◌, ◌<◌, ◌+◌, ◌-◌, ◌++◌, All, subst, [], ◌∷◌, cond, arith, sym, ap, ◌∙◌, append-nil, append_assoc}
use Rattle.std.specs.List.{filter, range_with_len}
use Rattle.std.proofs.lemmas.Grind.{common_steps}
use Rattle.std.proofs.lemmas.List.Elements.{All-append}
use Rattle.cps_claims.specs.Counts.{places}
use Rattle.cps_claims.specs.Shown.{kept_digit}
use Rattle.cps_claims.proofs.SlotLemmas.{all-places}
use Rattle.cps_compare.specs.Differences.{differs_in, lacking}
use Rattle.cps_compare.proofs.ToldLemmas.{places-more, range-more}
use Rattle.cps_compare.proofs.TextLemmas.{places-below}
use Rattle.cps_compare.proofs.GivenLemmas.{range-below, none-of}
use Rattle.cps_compare.proofs.difference.places_of.Goals as goal
use Rattle.cps_compare.proofs.difference.places_of.Goals.{then-differs_in, else-differs_in, else-whole-via-then-whole+else-lacks, else-whole-via-else-whole}

pub loop-place-preserved : goal.loop-place-preserved
loop-place-preserved c =
    let at = c.loop-place.place in
    let test = differs_in c.args.word.now (kept_digit c.args.given.now) in
    let before = filter test (range_with_len 0 at) in
    let more = places-more test at in
    elim c.if-differs_in.branch [
      | then-differs_in w ↦
          let next = more ∙ ap (λ b. before ++ cond b (at ∷ []) []) (sym c.differs_in.ensures ∙ w.if-differs_in.true) in
          record { places = grind (arith, common_steps); few = grind (arith, common_steps) }
      | else-differs_in w ↦
          let next = more ∙ ap (λ b. before ++ cond b (at ∷ []) []) (sym c.differs_in.ensures ∙ w.if-differs_in.false) ∙ append-nil before in
          record { places = grind (arith, common_steps); few = grind (arith, common_steps) }
    ]

pub loop-place-then-lacks-init : goal.loop-place-then-lacks-init
loop-place-then-lacks-init c =
    let test = differs_in c.args.word.now (kept_digit c.args.given.now) in
    let end : c.loop-place.place ≡ 20 = omega arith in
    let none : c.args.shown - c.args.shown ≡ 0 = omega arith in
    let few = c.loop-place.invariant.few in
    record {
      places = c.loop-place.invariant.places ∙ ap (λ n. filter test (range_with_len 0 n)) end ∙ ap (filter test) all-places
          ∙ sym (append-nil (filter test places)) ∙ ap (λ n. filter test places ++ range_with_len c.args.shown n) (sym none);
      few = omega (arith, end, few);
    }

pub loop-place-then-lacks-preserved : goal.loop-place-then-lacks-preserved
loop-place-then-lacks-preserved c =
    let test = differs_in c.args.word.now (kept_digit c.args.given.now) in
    let shown = c.args.shown in
    let at = c.loop-place-then-lacks.place in
    let from : shown ≤ at = c.loop-place-then-lacks.auto.place in
    let next : at + 1 - shown ≡ at - shown + 1 = omega arith in
    let here : shown + (at - shown) ≡ at = omega arith in
    let few = c.loop-place-then-lacks.invariant.few in
    let long = c.push-in-loop-place-then-lacks.ensures.len in
    record {
      places = c.push-in-loop-place-then-lacks.ensures.items ∙ ap (λ l. l ++ at ∷ []) c.loop-place-then-lacks.invariant.places
          ∙ append_assoc (filter test places) (range_with_len shown (at - shown)) (at ∷ [])
          ∙ ap (λ n. filter test places ++ (range_with_len shown (at - shown) ++ n ∷ [])) (sym here)
          ∙ ap (λ l. filter test places ++ l) (sym (range-more shown (at - shown)))
          ∙ ap (λ n. filter test places ++ range_with_len shown n) (sym next);
      few = omega (arith, few, long, from);
    }

pub returns-after-loop-place-then-lacks-clause-few : goal.returns-after-loop-place-then-lacks-clause-few
returns-after-loop-place-then-lacks-clause-few c =
    let test = differs_in c.args.word.now (kept_digit c.args.given.now) in
    let shown = c.args.shown in
    let at = c.loop-place-then-lacks.place in
    let from : shown ≤ at = c.loop-place-then-lacks.auto.place in
    let word = c.requires.word in
    let stop = c.loop-place-then-lacks.auto.place-end in
    let fewer = c.lacks.ensures.fewer c.if-lacks.true in
    let within : shown + (at - shown) ≤ 20 = omega (arith, from, word, stop, fewer) in
    subst (λ l. All (λ place. place < 20) l) (sym c.loop-place-then-lacks.invariant.places)
    (All-append (λ place. place < 20) (filter test places) (range_with_len shown (at - shown))
    (subst (λ l. All (λ place. place < 20) (filter test l)) all-places (places-below test 20 20 (omega arith)))
    (range-below shown (at - shown) 20 within))

pub returns-else-whole-clause-places : goal.returns-else-whole-clause-places
returns-else-whole-clause-places c =
    let word = c.args.word.now in
    let given = kept_digit c.args.given.now in
    let test = differs_in word given in
    let end : c.loop-place.place ≡ 20 = omega arith in
    let found : c.loop-place.places.items ≡ filter test places ++ [] =
    c.loop-place.invariant.places ∙ ap (λ n. filter test (range_with_len 0 n)) end ∙ ap (filter test) all-places ∙ sym (append-nil (filter test places)) in
    elim c.else-whole.branch [
      | else-whole-via-then-whole+else-lacks w ↦
          let none : lacking word given ≡ [] = none-of (lacking word given) (sym (w.lacks.ensures.lacks given c.requires.shown) ∙ w.if-lacks.false) in
          found ∙ ap (λ l. filter test places ++ l) (sym none) ∙ ap (λ b. filter test places ++ cond b (lacking word given) []) (sym w.if-whole.true)
      | else-whole-via-else-whole w ↦ found ∙ ap (λ b. filter test places ++ cond b (lacking word given) []) (sym w.if-whole.false)
    ]

pub returns-else-whole-clause-few : goal.returns-else-whole-clause-few
returns-else-whole-clause-few c =
    let test = differs_in c.args.word.now (kept_digit c.args.given.now) in
    subst (λ l. All (λ place. place < 20) l) (sym c.loop-place.invariant.places) (places-below test c.loop-place.place 20 (omega arith))
