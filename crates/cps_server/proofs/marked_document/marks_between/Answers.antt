use Rattle.std.proofs.Common.{◌≡◌, ◌+◌, length, ap, subst, ◌∙◌, arith}
use Rattle.std.proofs.lemmas.List.{length_push}
use Rattle.cps_server.specs.Code.Keeping.{KeepsLine}
use Rattle.cps_server.proofs.KeepingLemmas.{KeepsFrom-next, KeepsFrom-none}
use Rattle.cps_server.proofs.marked_document.marks_between.Goals as goal

pub loop-number-init : goal.loop-number-init
loop-number-init c = record {
  behind = omega arith;
  count = ap length c.new-lines.ensures.items ∙ omega arith;
  each = KeepsFrom-none c.args.document.now c.args.first c.new-lines.result.items c.new-lines.ensures.items;
}

pub loop-number-preserved : goal.loop-number-preserved
loop-number-preserved c =
    let so_far = c.loop-number.invariant in
    let at : c.loop-number.number ≡ c.args.first + length c.loop-number.lines.items = omega (arith, so_far.behind, so_far.count) in
    record {
      behind = omega (arith, so_far.behind);
      count = ap length c.in_ok-push.ensures.items ∙ length_push c.loop-number.lines.items c.in_ok-of.field-0 ∙ omega (arith, so_far.count, so_far.behind);
      each = KeepsFrom-next c.args.document.now c.args.first c.loop-number.lines.items c.push.new.self.items c.in_ok-of.field-0 c.in_ok-push.ensures.items so_far.each
          (subst (λ n. KeepsLine c.args.document.now n c.in_ok-of.field-0) at c.in_ok-of.ensures);
    }
