use Rattle.std.proofs.Common.{arith, rules, ◌≡◌, ◌+◌, take}
use Rattle.std.specs.Prelude.{sum}
use Rattle.cps_chunk.specs.Code.Chunk.{lengths_of}
use Rattle.cps_chunk.proofs.WalkLemmas.{lengths-next}
use Rattle.cps_chunk.proofs.walk.Walk.cursor_at.Goals as goal

pub loop-chunk-preserved : goal.loop-chunk-preserved
loop-chunk-preserved c =
    let cs = c.args.self.now.chunks.items in
    let i = c.loop-chunk.chunk in
    let d = c.index.result.now in
    let next : sum (take (i + 1) (lengths_of cs)) ≡ sum (take i (lengths_of cs)) + d.lines = lengths-next cs i d (search rules) (search rules) in
    record { line = omega arith; begins = omega arith }
