-- An edit, put together of its parts.
use Rattle.std.proofs.Common.{arith, ◌≡◌, sym, ap, subst, ℕ, ◌+◌, ◌*◌, ◌-◌, ◌≤◌, List, length, take, drop, Vec}
use Rattle.std.specs.Prelude.{sum, vec_len}
use Rattle.cps_state.specs.Work.{Counts}
use Rattle.cps_chunk.specs.Recut.{recut}
use Rattle.cps_edit.specs.Compares.{ComparesUpTo}
use Rattle.cps_chunk.specs.declared.chunk.Chunk.{Chunk}
use Rattle.cps_chunk.proofs.WalkLemmas.{same-long}
use Rattle.cps_chunk.specs.Code.Looks.{first_looks, second_looks}
use Rattle.cps_chunk.specs.Touched.{touched_of}
use Rattle.cps_chunk.proofs.TouchedLemmas.{looks-law}
use Rattle.cps_chunk.specs.declared.put.ChunkSplice.{ChunkSplice}
use Rattle.cps_live.specs.declared.kept_source.KeptSource.{KeptSource}
use Rattle.cps_live.specs.Code.Editing.{HasAsMuchRoom, HasRoomFor, IsSplice, IsStill, LooksOfFirst, LooksOfSecond, splice_of}

-- ---- how many lines are compared

module _ (lines : List (List ℕ)) (olds : List ℕ) (cut : ChunkSplice) (is : IsSplice lines olds cut) where
  abbrev most : ℕ
  most = 128 * touched_of lines (splice_of cut) olds (recut cut.start cut.end cut.lengths.items olds)

  abbrev looks_one : ℕ
  looks_one = first_looks lines (splice_of cut) (cut.behind - cut.from) (drop cut.end olds)

  abbrev looks_two : ℕ
  looks_two = second_looks lines (splice_of cut) (take cut.start olds) (cut.keep - cut.before) (cut.behind - cut.from) (drop cut.end olds)

  looks : looks_one + looks_two ≤ most
  looks =
      subst (λ (n : ℕ). first_looks lines (splice_of cut) (n - cut.from) (drop cut.end olds)
      + second_looks lines (splice_of cut) (take cut.start olds) (cut.keep - cut.before) (n - cut.from) (drop cut.end olds) ≤ most) (sym is.behind)
      (subst (λ (n : ℕ). first_looks lines (splice_of cut) (sum (take cut.end olds) - cut.from) (drop cut.end olds)
      + second_looks lines (splice_of cut) (take cut.start olds) (cut.keep - n) (sum (take cut.end olds) - cut.from) (drop cut.end olds) ≤ most) (sym is.before)
      (looks-law lines (splice_of cut) cut.start cut.end cut.lengths.items olds is.recuts))

  pub looked-first : (u v : Counts) → LooksOfFirst lines olds cut u v → ComparesUpTo u v most
  looked-first u v one = record { least = one.least; most = omega (arith, one.most, looks) }

  pub looked-both : (u v w : Counts) → LooksOfFirst lines olds cut u v → LooksOfSecond lines olds cut v w → ComparesUpTo u w most
  looked-both u v w one two = record { least = omega (arith, one.least, two.least); most = omega (arith, one.most, two.most, looks) }

-- ---- room

pub room-still : {Z : Type 0} (old new : KeptSource) (cut : ChunkSplice) (list : Vec Chunk Z) → IsStill old new → HasAsMuchRoom old new → HasRoomFor old cut list → HasRoomFor new cut list
room-still old new cut list still much room =
    let n : vec_len new.lines ≡ vec_len old.lines = omega (arith, new.lines.ok.0, old.lines.ok.0, ap length still.lines) in
    let t : vec_len new.traces ≡ vec_len old.traces = omega (arith, new.traces.ok.0, old.traces.ok.0, ap length still.traces) in
    let o : vec_len new.outcomes ≡ vec_len old.outcomes = omega (arith, new.outcomes.ok.0, old.outcomes.ok.0, ap length still.outcomes) in
    let c : vec_len new.chunks ≡ vec_len old.chunks = omega (arith, new.chunks.ok.0, old.chunks.ok.0, same-long old.chunks.items new.chunks.items still.lengths) in
    record {
      lines = omega (arith, room.lines, n, much.lines);
      traces = omega (arith, room.traces, t, much.traces);
      outcomes = omega (arith, room.outcomes, o, much.outcomes);
      chunks = omega (arith, room.chunks, c, much.chunks);
      empty = room.empty;
      list = room.list;
    }
