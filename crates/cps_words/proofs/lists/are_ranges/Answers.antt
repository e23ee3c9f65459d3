use Rattle.std.proofs.Common.{rules, lit<}
use Rattle.std.proofs.lemmas.Iterator.Search.{all_from_yields_List}
use Rattle.std.proofs.lemmas.Iterator.Splits.{YieldsList-from_str_split}
use Rattle.cps_words.specs.Hints.{is_range}
use Rattle.cps_words.proofs.lists.are_ranges.Goals as goal

pub returns : goal.returns
returns c =
    all_from_yields_List is_range _ _ _ c.all.ensures.ran
    (YieldsList-from_str_split 44 c.args.word.now (lit< tt) c.split.ensures.text c.split.ensures.has_more c.split.ensures.pattern)
    (λ x b q k. search rules)
