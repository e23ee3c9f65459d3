use Rattle.cps_chunk.proofs.PastLemmas.{found-first}
use Rattle.cps_chunk.proofs.state_before.StateBefore.of.Goals as goal

pub returns : goal.returns
returns c =
    found-first (record { first = c.args.first; hashing = c.args.hashing; chunks = c.args.chunks; front = c.args.front; loose = c.args.loose }) _ c.requires.first c.requires.chunks
