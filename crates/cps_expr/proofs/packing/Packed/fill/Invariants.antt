use Rattle.std.proofs.Common.{◌≡◌, ◌+◌, ◌-◌}
use Rattle.std.specs.Prelude.{fold, replicate}
use Rattle.cps_expr.specs.Item.{with_code}
use Rattle.cps_expr.proofs.packing.Packed.fill.Given as goal

abbrev pub invariant-loop-filled : goal.invariant-loop-filled
invariant-loop-filled l = record {
  word : fold with_code l.self.word (replicate (l.missing - l._filled) l.code)
      ≡ fold with_code l.fn.self.word (replicate l.missing l.code);
  count : l.self.count ≡ l.fn.self.count + l._filled;
}
