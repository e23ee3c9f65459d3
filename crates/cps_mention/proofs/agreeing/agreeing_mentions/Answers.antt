use Rattle.std.proofs.Common.{All, Contains, subst, ◌∙◌}
use Rattle.cps_list.specs.Symbols.{mentions_from}
use Rattle.cps_mention.specs.Agreement.{entries_said}
use Rattle.cps_mention.proofs.agreeing.agreeing_mentions.Goals as goal

pub returns-then-branch : goal.returns-then-branch
returns-then-branch g c =
    let all = c.in_ok-say_all.ensures c.if-branch.true in
    let said = subst (λ mentions. All (Contains (entries_said mentions)) c.deref-2.result.now) c.deref.ensures.value all in
    record {
      stand = c.in_ok-mentions.ensures;
      all = subst (All (Contains (entries_said c.in_ok-mentions.mentions.items))) (c.deref-2.ensures.value ∙ c.in_ok-entries.ensures) said;
    }
