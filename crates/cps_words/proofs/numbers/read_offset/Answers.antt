use Rattle.std.proofs.Common.{None, arith, sym, ◌∙◌}
use Rattle.std.proofs.lemmas.Str.Pattern.{strip_prefix_char}
use Rattle.cps_words.proofs.NumberLemmas.{plain_offset}
use Rattle.cps_words.proofs.numbers.read_offset.Goals as goal

pub returns-in-None-strip_prefix : goal.returns-in-None-strip_prefix
returns-in-None-strip_prefix c =
    let word = c.args.word.now in
    let no_minus = strip_prefix_char 45 word None c.in-None.ensures.cases (omega arith) in
    let no_plus = strip_prefix_char 43 word None c.in-None-strip_prefix.ensures.cases (omega arith) in
    c.read_added-in-None-strip_prefix.ensures ∙ sym (plain_offset word no_minus no_plus)
