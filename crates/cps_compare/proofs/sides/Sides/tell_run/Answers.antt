use Rattle.std.proofs.Common.{◌≡◌, ◌++◌, ◌||◌, cond, false, take, drop, length, flat_map, sym, ap, ◌∙◌, arith, append_assoc}
use Rattle.std.specs.Prelude.{nat_le}
use Rattle.std.proofs.lemmas.Bool.Decides.{nat_tests}
use Rattle.std.proofs.lemmas.List.{length-map}
use Rattle.cps_compare.specs.declared.compared_word.ComparedWord.{ComparedWord}
use Rattle.cps_compare.specs.Runs.{rest_row}
use Rattle.cps_compare.specs.Code.Runs.{addresses_in}
use Rattle.cps_compare.proofs.RunLemmas.{addresses-take, addresses-drop}
use Rattle.cps_compare.proofs.sides.Sides.tell_run.Goals as goal

pub returns : goal.returns
returns g c = λ found kept.
    let run = c.args.run.now in
    let among = addresses_in run in
    let text = c.args.telling.now.text.items in
    let rows = found.told in
    let long : length among ≡ length run = length-map run (λ (word : ComparedWord). word.address) in
    let more : nat_le (length run) 5 ≡ false = grind (arith, nat_tests) in
    let test : (c.args.all || nat_le (length among) 5) ≡ false = (λ i. c.if-all.false i || (ap (λ n. nat_le n 5) long ∙ more) i) in
    let front = ap addresses_in c.split_at.ensures.front ∙ addresses-take 4 run in
    let rest = ap addresses_in c.split_at.ensures.back ∙ addresses-drop 4 run in
    c.in_ok-push_rest.ensures ∙ (λ i. (c.in_ok-tell_words.ensures found kept ∙ ap (λ l. text ++ flat_map rows l) front) i ++ rest_row (rest i))
    ∙ append_assoc text (flat_map rows (take 4 among)) (rest_row (drop 4 among))
    ∙ ap (λ b. text ++ cond b (flat_map rows among) (flat_map rows (take 4 among) ++ rest_row (drop 4 among))) (sym test)
