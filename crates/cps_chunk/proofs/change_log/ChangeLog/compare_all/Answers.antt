use Rattle.std.proofs.Common.{◌≤◌, None, rules, arith, ap, sym, ◌∙◌}
use Rattle.std.specs.Prelude.{unwrap_or}
use Rattle.std.specs.List.{slice_get}
use Rattle.std.proofs.lemmas.Bool.Decides.{nat_tests}
use Rattle.cps_final.specs.declared.changes.Changes.{Changes}
use Rattle.cps_final.specs.Changes.{changed}
use Rattle.cps_final.specs.Code.Kept.{changes_in, count_of, keys_in}
use Rattle.cps_chunk.specs.Code.Compared.{with_difference}
use Rattle.cps_chunk.proofs.ComparedLemmas.{compared-next, compared-all}
use Rattle.cps_chunk.proofs.change_log.ChangeLog.compare_all.Goals as goal

pub loop-i-preserved : goal.loop-i-preserved
loop-i-preserved g c =
    let before = g.L.Lookup.answer c.args.before.now in
    let so_far = c.loop-i.invariant in
    let key = c.key-key.result in
    record {
      present = c.compare.ensures.present ∙ so_far.present;
      former = c.compare.ensures.former ∙ so_far.former;
      done = compared-next (keys_in c.args.self.now.present) c.loop-i.i key
          (sym (ap (λ (now : Changes). slice_get (keys_in now) c.loop-i.i) so_far.present) ∙ c.key-key.ensures.key)
          _ _ _ _ _ so_far.done
          (c.in_ok-compare.ensures.changes
          ∙ (λ j. with_difference (changes_in c.loop-i.self.changes) key (unwrap_or (changes_in (so_far.present j) key) None) (changed (changes_in (so_far.former j)) before key)));
    }

pub returns : goal.returns
returns g c =
    let all : count_of c.args.self.now.present ≤ c.loop-i.i = first_of (omega arith, search rules, grind (arith, nat_tests)) in
    compared-all c.args.self.now.present c.loop-i.i _ _ _ all c.loop-i.invariant.done
