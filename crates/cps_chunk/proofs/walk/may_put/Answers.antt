use Rattle.std.proofs.Common.{◌≤◌, rules, arith, sym, ◌∙◌}
use Rattle.std.specs.Prelude.{is_some}
use Rattle.std.proofs.lemmas.Bool.Decides.{nat_tests}
use Rattle.cps_state.specs.declared.key.Key.{Key}
use Rattle.cps_state.specs.Course.{last_put}
use Rattle.cps_final.specs.Code.Kept.{changes_in, count_of, keys_in}
use Rattle.cps_final.specs.Layout.{puts_of}
use Rattle.cps_chunk.proofs.KeysLemmas.{any-next, any-all, all-keys, none-had, settled-none}
use Rattle.cps_chunk.proofs.walk.may_put.Goals as goal

pub loop-i-preserved : goal.loop-i-preserved
loop-i-preserved c =
    any-next (λ (k : Key). is_some (last_put (puts_of c.args.traces.now) k)) (keys_in c.args.changes.now) c.loop-i.i c.key.result c.key.ensures.key c.loop-i.invariant
    (sym c.puts_key.ensures ∙ c.if-puts_key.false)

pub returns : goal.returns
returns c = λ none.
    let p = λ (k : Key). is_some (last_put (puts_of c.args.traces.now) k) in
    let past : count_of c.args.changes.now ≤ c.loop-i.i = first_of (omega arith, search rules, grind (arith, nat_tests)) in
    settled-none (changes_in c.args.changes.now) (puts_of c.args.traces.now)
    (none-had p c.args.changes.now (any-all p (keys_in c.args.changes.now) c.loop-i.i (all-keys c.args.changes.now c.loop-i.i past) c.loop-i.invariant))
