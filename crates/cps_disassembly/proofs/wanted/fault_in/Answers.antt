use Rattle.std.proofs.Common.{sym, ◌∙◌}
use Rattle.cps_disassembly.proofs.WantedLemmas.{none-wanted}
use Rattle.cps_disassembly.proofs.wanted.fault_in.Goals as goal

pub returns-then-has_none : goal.returns-then-has_none
returns-then-has_none c = λ rows given kept.
    none-wanted c.args.wanted.now.selection given c.args.wanted.now kept (sym c.deref.ensures.value ∙ c.has_none.ensures c.if-has_none.true)
