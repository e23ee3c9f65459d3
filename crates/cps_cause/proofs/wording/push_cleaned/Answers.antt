use Rattle.std.proofs.Common.{ℕ, List, take, ap, ◌∙◌}
use Rattle.cps_input.specs.Shown.{has_no_control}
use Rattle.cps_cause.proofs.SentenceLemmas.{safe-behind}
use Rattle.cps_cause.proofs.wording.push_cleaned.Goals as goal

pub returns-in_err-push-clause-clean : goal.returns-in_err-push-clause-clean
returns-in_err-push-clause-clean c none =
    let front = take c.loop-byte.byte-index c.args.more.now in
    ap (λ (text : List ℕ). has_no_control text) (c.in_err-push.ensures.items ∙ c.loop-byte.invariant) ∙ safe-behind c.args.text.now.items front none

pub returns-clause-clean : goal.returns-clause-clean
returns-clause-clean c none =
    ap (λ (text : List ℕ). has_no_control text) c.loop-byte.invariant
    ∙ safe-behind c.args.text.now.items (take c.loop-byte.byte-index c.args.more.now) none
