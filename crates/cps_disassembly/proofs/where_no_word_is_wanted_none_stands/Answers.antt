use Rattle.cps_disassembly.proofs.WordLaws.{stands-none}
use Rattle.cps_disassembly.proofs.where_no_word_is_wanted_none_stands.Goals as goal

pub returns : goal.returns
returns c = λ selection octal text made address unwanted. stands-none _ _ _ unwanted (made.right address)
