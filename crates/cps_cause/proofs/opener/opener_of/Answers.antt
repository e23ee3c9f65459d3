use Rattle.std.proofs.Common.{◌≡◌, ℕ, ◌+◌, List, length, take, sym, ap, subst, ◌∙◌, arith}
use Rattle.std.specs.Prelude.{nat_lt}
use Rattle.cps_state.specs.Course.{Trace}
use Rattle.cps_state.specs.declared.key.Put.{Put}
use Rattle.cps_state.specs.Keys.{State, first_state, overwritten}
use Rattle.cps_final.specs.Layout.{puts_of}
use Rattle.cps_cause.specs.Opener.{open_behind}
use Rattle.cps_cause.specs.Code.OpenNow.{IsLast, IsOpenNow}
use Rattle.cps_cause.proofs.OpenerLemmas.{count-is, last-more, line-behind, much-is, open-found, opener-found}
use Rattle.cps_cause.proofs.opener.opener_of.Goals as goal

pub loop-above-preserved : goal.loop-above-preserved
loop-above-preserved c =
    let traces = c.args.traces.now in
    let at = c.loop-above.above in
    let before = overwritten first_state (puts_of (take at traces)) in
    let much = open_behind traces (length traces) in
    let much_is : c.count-much.result ≡ much = c.count-much.ensures ∙ much-is traces c.open_behind.result c.open_behind.ensures in
    let here_is : c.count.result ≡ open_behind traces at = c.count.ensures ∙ count-is before c.loop-above.opened c.loop-above.invariant.0 in
    let is_less = nat_lt c.count.result c.count-much.result in
    let less_is : is_less ≡ nat_lt (open_behind traces at) much =
    ap (λ (n : ℕ). nat_lt n c.count-much.result) here_is ∙ ap (nat_lt (open_behind traces at)) much_is in (
      subst (λ (s : State). IsOpenNow s c.behind-opened.result)
          (ap (λ (puts : List Put). overwritten before puts) (c.puts.ensures ∙ ap (λ (t : Trace). t.puts) c.index-traces-above.is)
          ∙ line-behind traces at c.index-traces-above.result c.loop-above-test.true)
          (c.behind-opened.ensures before c.loop-above.invariant.0),
      subst (IsLast traces much (at + 1)) (sym c.later-opener.ensures) (last-more traces much at c.loop-above.opener is_less less_is c.loop-above.invariant.1),
    )

pub returns-clause-opener : goal.returns-clause-opener
returns-clause-opener c =
    let traces = c.args.traces.now in
    let end : c.loop-above.above ≡ length traces = omega arith in
    opener-found traces c.loop-above.opener
    (subst (λ (n : ℕ). IsLast traces (open_behind traces (length traces)) n c.loop-above.opener) end c.loop-above.invariant.1)

pub returns-clause-open : goal.returns-clause-open
returns-clause-open c =
    let traces = c.args.traces.now in
    let end : c.loop-above.above ≡ length traces = omega arith in
    open-found traces c.loop-above.opener
    (subst (λ (n : ℕ). IsLast traces (open_behind traces (length traces)) n c.loop-above.opener) end c.loop-above.invariant.1)
