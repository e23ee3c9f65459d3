use Rattle.std.proofs.Common.{◌≡◌, take, flat_map}
use Rattle.cps_final.specs.Pool.{literals_of}
use Rattle.cps_final.proofs.literals.list_literals.Given as goal

abbrev pub invariant-loop-item : goal.invariant-loop-item
invariant-loop-item l = l.literals.items ≡ flat_map (λ item. literals_of item.made) (take l.item-index l.items)
