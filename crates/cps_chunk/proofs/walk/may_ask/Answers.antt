use Rattle.std.proofs.Common.{◌≤◌, rules, arith, sym, ◌∙◌}
use Rattle.std.proofs.lemmas.Bool.Decides.{nat_tests}
use Rattle.cps_final.specs.Code.Kept.{changes_in, count_of, keys_in}
use Rattle.cps_chunk.specs.Code.Sought.{is_asked}
use Rattle.cps_chunk.proofs.KeysLemmas.{any-next, any-all, all-keys, none-had}
use Rattle.cps_chunk.proofs.PassedLemmas.{unasked-stands}
use Rattle.cps_chunk.proofs.walk.may_ask.Goals as goal

pub loop-i-preserved : goal.loop-i-preserved
loop-i-preserved c =
    any-next (is_asked c.args.traces.now) (keys_in c.args.changes.now) c.loop-i.i c.key.result c.key.ensures.key c.loop-i.invariant (sym c.asks_key.ensures ∙ c.if-asks_key.false)

pub returns : goal.returns
returns c = λ none.
    let changes = c.args.changes.now in
    let p = is_asked c.args.traces.now in
    let past : count_of changes ≤ c.loop-i.i = first_of (omega arith, search rules, grind (arith, nat_tests)) in
    unasked-stands (changes_in changes) c.args.traces.now
    (none-had p changes (any-all p (keys_in changes) c.loop-i.i (all-keys changes c.loop-i.i past) c.loop-i.invariant))
