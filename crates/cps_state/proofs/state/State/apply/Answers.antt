use Rattle.std.proofs.Common.{◌∙◌}
use Rattle.cps_state.proofs.StateLemmas.{on_err-same, overwritten-same}
use Rattle.cps_state.proofs.state.State.apply.Goals as goal

pub returns-in_err-reserve-clause-err : goal.returns-in_err-reserve-clause-err
returns-in_err-reserve-clause-err c = on_err-same c.from_residual-in_err-reserve.result _ _ _ _ _ _ _ _ c.reserve.ensures.answer

pub returns-clause-ok : goal.returns-clause-ok
returns-clause-ok c = c.put_all.ensures.answer ∙ overwritten-same _ _ _ _ _ _ _ _ _ _ c.in_ok-reserve.ensures.answer (c.in_ok-share_puts.ensures ∙ c.puts.ensures)
