use Rattle.std.proofs.Common.{◌≡◌, drop}
use Rattle.cps_pass.specs.Code.NamesNow.{values_in}
use Rattle.cps_pass.proofs.value_now.value_among.Given as goal

abbrev pub invariant-loop-now : goal.invariant-loop-now
invariant-loop-now l = values_in (drop l.now-index l.names) l.name ≡ values_in l.names l.name
