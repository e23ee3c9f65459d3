use Rattle.std.proofs.Common.{arith, rules, ◌≡◌, ◌≤◌, false, length, refl, ap, sym}
use Rattle.cps_chunk.specs.Code.Walk.{stretch}
use Rattle.cps_chunk.proofs.OverLemmas.{none-here, same-over}
use Rattle.cps_chunk.proofs.SoughtLemmas.{untouched-agreed, untouched-stands}
use Rattle.cps_chunk.proofs.WalkLemmas.{chunk-at, lengths-grow}
use Rattle.cps_chunk.proofs.walk.Walk.go_over_sought.Goals as goal

pub returns-then-not-may_touch-clause-over : goal.returns-then-not-may_touch-clause-over
returns-then-not-may_touch-clause-over c =
    let walk = c.args.self.now in
    let a = c.args.cursor.line in
    let b = c.args.end in
    let d = c.index.result.now in
    let le : a ≤ b = omega (arith, c.requires.chunk.stands.line, c.requires.end, lengths-grow walk.chunks.items c.args.cursor.chunk) in
    let out : c.may_touch.result ≡ false = search rules in
    let changes = walk.replay.log.changes in
    let ts = stretch a b walk.base.traces.now in
    let none = c.may_touch.ensures out walk.base.hashing changes c.requires.sought in
    let is = chunk-at walk.base.hashing walk.chunks.items walk.base.traces.now c.args.cursor.chunk a b d c.requires.chunk.within c.index.ensures c.requires.chunk.stands.line c.requires.end c.requires.walk.chunks in
    same-over walk c.requires.walk a b le walk (untouched-stands walk.base.hashing changes d none ts is.asks) (sym (untouched-agreed walk.base.hashing changes d none ts is.puts)) refl
    c.requires.present refl

pub returns-then-not-may_touch-clause-walk : goal.returns-then-not-may_touch-clause-walk
returns-then-not-may_touch-clause-walk c = record { walk = c.requires.walk; base = refl; lengths = refl }

pub returns-then-not-may_touch-clause-steps : goal.returns-then-not-may_touch-clause-steps
returns-then-not-may_touch-clause-steps c =
    let walk = c.args.self.now in
    let a = c.args.cursor.line in
    let b = c.args.end in
    let d = c.index.result.now in
    let le : a ≤ b = omega (arith, c.requires.chunk.stands.line, c.requires.end, lengths-grow walk.chunks.items c.args.cursor.chunk) in
    let out : c.may_touch.result ≡ false = search rules in
    let changes = walk.replay.log.changes in
    let ts = stretch a b walk.base.traces.now in
    let untouched = c.may_touch.ensures out walk.base.hashing changes c.requires.sought in
    let is = chunk-at walk.base.hashing walk.chunks.items walk.base.traces.now c.args.cursor.chunk a b d c.requires.chunk.within c.index.ensures c.requires.chunk.stands.line c.requires.end c.requires.walk.chunks in
    let none = ap length (none-here walk c.requires.walk a b le (untouched-stands walk.base.hashing changes d untouched ts is.asks)) in
    record {
      ones = omega (arith, none);
      twos = omega arith;
      ones_least = omega arith;
      twos_least = omega arith;
      ones_most = omega arith;
      twos_most = omega arith;
    }
