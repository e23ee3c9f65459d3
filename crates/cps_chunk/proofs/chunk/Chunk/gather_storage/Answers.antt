use Rattle.std.proofs.Common.{[]}
use Rattle.cps_chunk.proofs.chunk.Chunk.gather_storage.Goals as goal

pub returns-clause-chunk : goal.returns-clause-chunk
returns-clause-chunk c = record {
  lines = c.requires.lines;
  puts = c.requires.puts;
  asks = c.requires.asks;
  names = c.requires.names;
  run = c.requires.run;
  names_kept = c.requires.names_kept;
  storage = c.in_ok-store_all.ensures [] c.new-storage.ensures;
}
