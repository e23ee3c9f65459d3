use Rattle.std.proofs.Common.{rules, ◌≡◌, ◌+◌, ◌-◌, ◌<◌, ◌≤◌, ◌∙◌, sym, ap, length, take, false, true, arith}
use Rattle.std.specs.Prelude.{slice_index}
use Rattle.std.proofs.lemmas.List.{length-take-le}
use Rattle.cps_text.specs.Text.{is_blank}
use Rattle.cps_list.specs.Listing.{trimmed}
use Rattle.cps_list.proofs.TextLemmas.{trimmed-cut, trimmed-kept}
use Rattle.cps_compare.proofs.given_word.filled_len.Goals as goal

pub returns-then-text-last-ne32-clause-front : goal.returns-then-text-last-ne32-clause-front
returns-then-text-last-ne32-clause-front c =
    let text = c.args.text.now in
    let last = length text - 1 - c.loop-cut.cut in
    let more = c.loop-cut-test.true in
    let sum : length text - c.loop-cut.cut ≡ last + 1 = omega arith in
    let within : last < length text = omega arith in
    let filled : is_blank (slice_index text last) ≡ false = search rules in
    sym (c.loop-cut.invariant ∙ ap (λ n. trimmed (take n text)) sum ∙ trimmed-kept text last _ within filled)

pub returns-then-text-last-ne32-clause-len : goal.returns-then-text-last-ne32-clause-len
returns-then-text-last-ne32-clause-len c =
    let text = c.args.text.now in
    let last = length text - 1 - c.loop-cut.cut in
    let more = c.loop-cut-test.true in
    let within : last + 1 ≤ length text = omega arith in
    sym (length-take-le (last + 1) text within) ∙ ap length (returns-then-text-last-ne32-clause-front c)

pub loop-cut-preserved : goal.loop-cut-preserved
loop-cut-preserved c =
    let text = c.args.text.now in
    let last = length text - 1 - c.loop-cut.cut in
    let more = c.loop-cut-test.true in
    let sum : length text - c.loop-cut.cut ≡ last + 1 = omega arith in
    let within : last < length text = omega arith in
    let next : last ≡ length text - (c.loop-cut.cut + 1) = omega arith in
    let blank : is_blank (slice_index text last) ≡ true = search rules in
    c.loop-cut.invariant ∙ ap (λ n. trimmed (take n text)) sum ∙ trimmed-cut text last _ within blank ∙ ap (λ n. trimmed (take n text)) next
