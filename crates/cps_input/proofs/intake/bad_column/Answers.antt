use Rattle.std.proofs.Common.{sym, ◌∙◌}
use Rattle.cps_input.proofs.BadLemmas.{first_bad_at, some_bad}
use Rattle.cps_input.proofs.intake.bad_column.Goals as goal

pub unreachable-requires : goal.unreachable-requires
unreachable-requires c = some_bad c.args.text.now c.requires (sym c.in-None.is ∙ c.first_bad.ensures.place)

pub returns : goal.returns
returns c = first_bad_at c.args.text.now c.in-Some.before (sym c.in-Some.is ∙ c.first_bad.ensures.place)
