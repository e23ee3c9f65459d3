use Rattle.std.proofs.Common.{ℕ, ◌+◌, ◌-◌, ap, ◌∙◌, arith}
use Rattle.std.specs.Prelude.{fold, replicate}
use Rattle.cps_expr.specs.Item.{with_code}
use Rattle.cps_expr.proofs.PackingLemmas.{fill-next}
use Rattle.cps_expr.proofs.packing.Packed.fill.Goals as goal

pub loop-filled-preserved : goal.loop-filled-preserved
loop-filled-preserved c = record {
  word =
      let i = c.loop-filled._filled in
      ap (λ (word : ℕ). fold with_code word (replicate (c.args.missing - (i + 1)) c.args.code)) c.push.ensures.word
      ∙ fill-next c.loop-filled.self.word c.args.code c.args.missing i c.loop-filled-test.true
      ∙ c.loop-filled.invariant.word;
  count = omega arith;
}
