use Rattle.std.proofs.Common.{◌≡◌, ◌+◌, refl, arith, None}
use Rattle.cps_chunk.proofs.OldChunkLemmas.{set-one}
use Rattle.cps_chunk.proofs.exchange.set_before.Goals as goal

pub returns-then-both-le-FULL-clause-pieces : goal.returns-then-both-le-FULL-clause-pieces
returns-then-both-le-FULL-clause-pieces c = λ ns ms more are may.
    let both : c.saturating_add-both.result ≡ c.args.lines + c.in-Some.first.lines = omega (arith, c.saturating_add-both.ensures, c.if-both-le-FULL.true) in
    set-one ns ms more c.args.pieces.now.items c.pop.new.self.items c.push.new.self.items c.in-Some.first (record { lines = c.saturating_add-both.result; old = None }) c.args.lines c.args.old
    c.in-Some.ensures.items c.in_ok-push.ensures.items both refl are may
