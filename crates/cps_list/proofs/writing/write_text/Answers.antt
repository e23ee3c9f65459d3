use Rattle.std.proofs.Common.{arith, ◌∙◌}
use Rattle.std.proofs.KnownBytes.{Appends-trans}
use Rattle.std.proofs.Math.Seq.{take-add}
use Rattle.cps_list.proofs.writing.write_text.Goals as goal

pub loop-done-preserved : goal.loop-done-preserved
loop-done-preserved g c = record {
  within = omega (arith, c.in-Some.ensures.bound, c.split_at.ensures.back_len);
  appends = rw (take-add c.loop-done.done c.in-Some.count c.args.text.now, ← c.split_at.ensures.back) (Appends-trans _ _ _ _ _ c.loop-done.invariant.appends c.in-Some.ensures.bytes);
  failures = c.in-Some.ensures.failures ∙ c.loop-done.invariant.failures;
}
