use Rattle.std.proofs.Common.{◌≡◌, drop}
use Rattle.cps_final.specs.Finals.{first_program}
use Rattle.cps_final.proofs.storage.first_program.Given as goal

abbrev pub invariant-loop-item : goal.invariant-loop-item
invariant-loop-item l = first_program (drop l.item-index l.items) ≡ first_program l.items
