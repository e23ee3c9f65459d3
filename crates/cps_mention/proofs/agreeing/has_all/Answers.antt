use Rattle.std.proofs.Common.{rules, arith, ◌≤◌, All, Contains, length, subst, take_all}
use Rattle.std.proofs.lemmas.List.Elements.{All-more}
use Rattle.cps_mention.proofs.agreeing.has_all.Goals as goal

pub loop-entry-preserved : goal.loop-entry-preserved
loop-entry-preserved c =
    All-more (Contains c.args.said.now) c.args.entries.now c.loop-entry.entry-index _ c.loop-entry-test.true c.loop-entry.invariant (c.stands_at.ensures (search rules))

pub returns : goal.returns
returns c =
    let entries = c.args.entries.now in
    let i = c.loop-entry.entry-index in
    let all : length entries ≤ i = omega (arith, c.loop-entry-test.false) in
    λ is. subst (All (Contains c.args.said.now)) (take_all i entries all) c.loop-entry.invariant
