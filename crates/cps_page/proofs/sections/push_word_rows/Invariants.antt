use Rattle.std.proofs.Common.{ℕ, List, drop}
use Rattle.cps_markup.specs.Links.{Leads}
use Rattle.cps_markup.specs.Code.Adding.{Adds}
use Rattle.cps_page.specs.Code.Making.{words_among}
use Rattle.cps_page.proofs.sections.push_word_rows.Given as goal

-- what adds the rows left adds all rows
abbrev pub invariant-loop-word : goal.invariant-loop-word
invariant-loop-word g l = (last : List ℕ) → Adds (Leads l.targets) l.rest (words_among (drop l.word-index l.targets.words.items)) l.page.items last
    → Adds (Leads l.targets) l.words.text.now (words_among l.targets.words.items) l.fn.page.items last
