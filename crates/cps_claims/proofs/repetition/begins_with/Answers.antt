use Rattle.std.proofs.Common.{◌≡◌, ℕ, ◌+◌, ◌<◌, ◌≤◌, ◌&&◌, List, length, get_or, drop, sym, ap, ◌∙◌, arith}
use Rattle.std.proofs.lemmas.List.{drop_more}
use Rattle.std.proofs.Math.ListN.{drop_of_length-le}
use Rattle.std.specs.Char.{eq_ignore_ascii_case}
use Rattle.cps_claims.proofs.RepetitionLemmas.{begins, begins-all}
use Rattle.cps_claims.proofs.repetition.begins_with.Goals as goal

-- one letter more
one-more : (text word : List ℕ) (at : ℕ) → at < length word → at < length text
    → begins eq_ignore_ascii_case (drop at word) (drop at text)
    ≡ (eq_ignore_ascii_case (get_or word at 0) (get_or text at 0) && begins eq_ignore_ascii_case (drop (at + 1) word) (drop (at + 1) text))
one-more text word at here there = λ i. begins eq_ignore_ascii_case (drop_more word at 0 here i) (drop_more text at 0 there i)

pub returns-then-not-eq_ignore_ascii_case : goal.returns-then-not-eq_ignore_ascii_case
returns-then-not-eq_ignore_ascii_case c =
    let text = c.args.text.now in
    let word = c.args.word.now in
    let at = c.loop-at.at in
    let there : at < length text = omega arith in
    let step = one-more text word at c.loop-at-test.true there in
    let same = sym c.eq_ignore_ascii_case.ensures ∙ c.if-not-eq_ignore_ascii_case.true in
    sym (begins-all eq_ignore_ascii_case text word ∙ c.loop-at.invariant ∙ step
    ∙ ap (λ b. b && begins eq_ignore_ascii_case (drop (at + 1) word) (drop (at + 1) text)) same)

pub loop-at-preserved : goal.loop-at-preserved
loop-at-preserved c =
    let text = c.args.text.now in
    let word = c.args.word.now in
    let at = c.loop-at.at in
    let there : at < length text = omega arith in
    let step = one-more text word at c.loop-at-test.true there in
    let same = sym c.eq_ignore_ascii_case.ensures ∙ c.if-not-eq_ignore_ascii_case.false in
    c.loop-at.invariant ∙ step ∙ ap (λ b. b && begins eq_ignore_ascii_case (drop (at + 1) word) (drop (at + 1) text)) same

pub returns : goal.returns
returns c =
    let text = c.args.text.now in
    let word = c.args.word.now in
    let at = c.loop-at.at in
    let end : length word ≤ at = omega arith in
    sym (begins-all eq_ignore_ascii_case text word ∙ c.loop-at.invariant
    ∙ ap (λ left. begins eq_ignore_ascii_case left (drop at text)) (drop_of_length-le word end))
