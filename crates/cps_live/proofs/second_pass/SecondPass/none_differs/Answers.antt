use Rattle.std.proofs.Common.{arith, rules, ◌≤◌, length, sym, subst}
use Rattle.std.proofs.lemmas.List.{take_all}
use Rattle.std.proofs.lemmas.List.Elements.{All-more, All-same}
use Rattle.cps_final.specs.Code.Ends.{was_of, now_of}
use Rattle.cps_live.proofs.SecondPassLemmas.{IsQuiet, exact-quiet, chunks-quiet}
use Rattle.cps_live.proofs.second_pass.SecondPass.none_differs.Goals as goal

pub loop-chunk-preserved : goal.loop-chunk-preserved
loop-chunk-preserved c =
    let pass = c.args.self.now in
    let quiet = IsQuiet (was_of pass.redo.ends) (now_of pass.redo.ends) pass.base.hashing in
    All-more quiet c.args.chunks.now c.loop-chunk.chunk-index c.chunk-item.result c.loop-chunk-test.true c.loop-chunk.invariant
    (subst quiet c.chunk-item.is (exact-quiet pass c.requires c.chunk-item.result (λ us marked. c.may_have.ensures c.if-may_have.false pass.base.hashing us c.requires.sought marked)))

pub returns : goal.returns
returns c = λ yes traces chunks.
    let pass = c.args.self.now in
    let quiet = IsQuiet (was_of pass.redo.ends) (now_of pass.redo.ends) pass.base.hashing in
    let past : length c.args.chunks.now ≤ c.loop-chunk.chunk-index = first_of (omega arith, search rules) in
    chunks-quiet (was_of pass.redo.ends) (now_of pass.redo.ends) pass.base.hashing c.args.chunks.now traces chunks
    (All-same quiet c.args.chunks.now _ (sym (take_all c.loop-chunk.chunk-index c.args.chunks.now past)) c.loop-chunk.invariant)
