use Rattle.std.proofs.Common.{List, subst, sym}
use Rattle.std.specs.Prelude.{None}
use Rattle.cps_markup.specs.declared.targets.WordEntry.{WordEntry}
use Rattle.cps_page.specs.Code.Making.{AreWordsTo}
use Rattle.cps_page.proofs.WordLemmas.{words-none, words-all}
use Rattle.cps_page.proofs.words.list_words.Goals as goal

pub loop-rest-init : goal.loop-rest-init
loop-rest-init c = subst (λ (words : List WordEntry). AreWordsTo None words) (sym c.new-words.ensures.items) words-none

pub returns : goal.returns
returns c = words-all c.loop-rest.last c.loop-rest.words.items c.loop-rest.invariant
