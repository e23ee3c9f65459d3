use Rattle.std.proofs.Common.{◌≡◌, ◌≤◌, drop, length}
use Rattle.std.specs.Prelude.{nat_eq}
use Rattle.indexmap.specs.IndexSet.{insert_all, spare}
use Rattle.cps_final.proofs.storage.insert_literals.Given as goal

-- what is left gives the same pool, and there is room for it
abbrev pub invariant-loop-literal : goal.invariant-loop-literal
invariant-loop-literal l = record {
  room : length (drop l.literal-index l.literals) ≤ spare l.pool;
  left : insert_all nat_eq l.pool.keys (drop l.literal-index l.literals) ≡ insert_all nat_eq l.fn.pool.keys l.literals;
}
