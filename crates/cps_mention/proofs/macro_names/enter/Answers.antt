use Rattle.std.proofs.Common.{sym, ◌∙◌}
use Rattle.cps_mention.proofs.MacroNameLemmas.{indexes-taken, indexes-new}
use Rattle.cps_mention.proofs.macro_names.enter.Goals as goal

pub returns-then-contains_key-clause-ok : goal.returns-then-contains_key-clause-ok
returns-then-contains_key-clause-ok c = λ names was len.
    indexes-taken names c.args.index.now c.args.name (sym c.contains_key.ensures ∙ c.if-contains_key.true) was

pub returns-clause-ok : goal.returns-clause-ok
returns-clause-ok c = λ names was len.
    indexes-new names c.args.index.now c.insert.new.self c.args.name c.args.before (sym c.contains_key.ensures ∙ c.if-contains_key.false) c.in_ok-insert.ensures.updates.0 was len
