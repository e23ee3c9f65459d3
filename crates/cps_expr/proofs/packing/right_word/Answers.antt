use Rattle.std.proofs.Common.{◌∙◌}
use Rattle.cps_expr.specs.Item.{codes_of}
use Rattle.cps_expr.proofs.PackingLemmas.{right-packed, within-word}
use Rattle.cps_expr.proofs.packing.right_word.Goals as goal

pub returns-clause-word : goal.returns-clause-word
returns-clause-word c = c.pack_characters.ensures.word ∙ right-packed c.args.count c.args.most (codes_of c.args.characters.now)

pub returns-clause-fits : goal.returns-clause-fits
returns-clause-fits c = within-word c.pack_characters.result c.args.count c.args.most c.pack_characters.ensures.fits c.requires.few
