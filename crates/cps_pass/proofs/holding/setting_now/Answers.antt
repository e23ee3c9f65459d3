use Rattle.cps_pass.proofs.UnsetLemmas.{unset-asked}
use Rattle.cps_pass.proofs.holding.setting_now.Goals as goal

pub returns-then-is_none-clause-unset : goal.returns-then-is_none-clause-unset
returns-then-is_none-clause-unset g c =
    unset-asked g.L.Lookup.answer c.args.recorder.now c.ask_value.new.recorder c.args.name.now c.in_ok-value.value c.in_ok-value.ensures.asks
    c.in_ok-value.ensures.value c.if-is_none.ensures
