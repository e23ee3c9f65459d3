use Rattle.std.proofs.Common.{arith, sym, ◌∙◌}
use Rattle.cps_chunk.proofs.WalkLemmas.{as-long, lengths-all}
use Rattle.cps_chunk.proofs.walk.Walk.end.Goals as goal

pub returns-clause-stands : goal.returns-clause-stands
returns-clause-stands c =
    let walk = c.args.self.now in
    record {
      within = omega (arith, c.len.ensures);
      line = sym (lengths-all walk.base.hashing walk.chunks.items walk.base.traces.now c.len.result (omega (arith, c.len.ensures)) c.requires.chunks
          ∙ as-long walk.base.lines.now walk.base.traces.now c.requires.base.did);
    }
