use Rattle.std.proofs.Common.{◌≡◌, ◌≤◌, length, take}
use Rattle.std.specs.Prelude.{sum}
use Rattle.cps_state.specs.Work.{counted_on}
use Rattle.cps_chunk.specs.Code.Chunk.{lengths_of}
use Rattle.cps_chunk.specs.Code.Along.{GoesAlong, fronts_along, looks_along, reached, replayed_along, span}
use Rattle.cps_chunk.specs.Code.Walk.{IsStillWalk}
use Rattle.cps_chunk.proofs.walk.Walk.go_along.Given as goal

-- what the chunks so far have of the span was gone along
abbrev pub invariant-loop-chunk : goal.invariant-loop-chunk
invariant-loop-chunk l =
    let lengths = lengths_of l.fn.self.chunks.items in
    let lines = span l.fn.span.from (reached l.fn.span l.line) in
    record {
      walk : IsStillWalk l.fn.self l.self;
      line : l.line ≡ sum (take l.chunk lengths);
      along : GoesAlong l.fn.self l.self l.position lines;
      ones : l.work.ones ≡ counted_on l.fn.work.ones (length (replayed_along l.fn.self l.position lines));
      ones_least : l.fn.work.ones ≤ l.work.ones;
      twos : l.work.twos ≡ l.fn.work.twos;
      looked : l.work.looked ≤ counted_on l.fn.work.looked (looks_along l.fn.span (take l.chunk lengths) 0 (fronts_along l.fn.self l.position l.fn.span) l.fn.self.base.traces.now);
      looked_least : l.fn.work.looked ≤ l.work.looked;
    }
