use Rattle.std.proofs.Common.{ℕ, List, ◌++◌, take}
use Rattle.cps_input.specs.Code.BegunLine.{IsBegun}
use Rattle.cps_input.proofs.begun_line.BegunLine.push_all.Given as goal

abbrev pub invariant-loop-byte : goal.invariant-loop-byte
invariant-loop-byte l = (begun : List ℕ) → IsBegun l.fn.self begun → IsBegun l.self (begun ++ take l.byte-index l.bytes)
