use Rattle.std.proofs.Common.{ap, ◌∙◌}
use Rattle.cps_expr.specs.Item.{packed}
use Rattle.cps_expr.proofs.PackingLemmas.{blanks-behind}
use Rattle.cps_expr.proofs.packing.blank_word.Goals as goal

pub returns-clause-word : goal.returns-clause-word
returns-clause-word c = c.pack_characters.ensures.word ∙ ap packed (blanks-behind c.args.count c.args.most c.args.characters.now c.requires.behind c.requires.few)
