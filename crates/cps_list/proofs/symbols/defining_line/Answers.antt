use Rattle.std.proofs.Common.{rules, sym, ap, ◌∙◌}
use Rattle.std.proofs.lemmas.List.{drop_all}
use Rattle.cps_list.specs.Symbols.{defining_line}
use Rattle.cps_list.proofs.SymbolLemmas.{defining-here, defining-later}
use Rattle.cps_list.proofs.symbols.defining_line.Goals as goal

pub returns-then-mention : goal.returns-then-mention
returns-then-mention c = sym (defining-here c.args.mentions.now c.loop-mention.mention-index _ (search rules) c.if-mention.true) ∙ c.loop-mention.invariant

pub loop-mention-preserved : goal.loop-mention-preserved
loop-mention-preserved c = sym (defining-later c.args.mentions.now c.loop-mention.mention-index _ (search rules) c.if-mention.false) ∙ c.loop-mention.invariant

pub returns : goal.returns
returns c = sym (ap defining_line (drop_all c.loop-mention.mention-index c.args.mentions.now (search rules))) ∙ c.loop-mention.invariant
