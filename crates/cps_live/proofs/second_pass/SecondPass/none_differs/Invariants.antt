use Rattle.std.proofs.Common.{take}
use Rattle.std.specs.Prelude.{All}
use Rattle.cps_final.specs.Code.Ends.{was_of, now_of}
use Rattle.cps_live.proofs.SecondPassLemmas.{IsQuiet}
use Rattle.cps_live.proofs.second_pass.SecondPass.none_differs.Given as goal

-- none so far names what has another final value
abbrev pub invariant-loop-chunk : goal.invariant-loop-chunk
invariant-loop-chunk l = All (IsQuiet (was_of l.self.redo.ends) (now_of l.self.redo.ends) l.self.base.hashing) (take l.chunk-index l.chunks)
