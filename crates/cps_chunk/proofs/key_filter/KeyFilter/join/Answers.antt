use Rattle.std.proofs.Common.{arith, rules, ◌≡◌, ◌≤◌, length}
use Rattle.cps_chunk.proofs.MarkLemmas.{bits-all, joined-none, joined-more, joined-all}
use Rattle.cps_chunk.proofs.key_filter.KeyFilter.join.Goals as goal

pub loop-i-init : goal.loop-i-init
loop-i-init c =
    let long : length c.args.self.now.bits ≡ 32 = search (rules, arith) in
    joined-none c.args.self.now c.args.other.now long

pub loop-i-preserved : goal.loop-i-preserved
loop-i-preserved c = joined-more c.args.self.now c.args.other.now c.loop-i.self c.loop-i.i c.loop-i-test.true c.loop-i.invariant

pub returns-clause-joined : goal.returns-clause-joined
returns-clause-joined c =
    let past : length c.args.other.now.bits ≤ c.loop-i.i = search (rules, arith) in
    joined-all c.args.self.now c.args.other.now c.loop-i.self c.loop-i.i past c.loop-i.invariant

pub returns-clause-kept : goal.returns-clause-kept
returns-clause-kept c = bits-all c.args.self.now c.loop-i.self c.loop-i.invariant.kept
