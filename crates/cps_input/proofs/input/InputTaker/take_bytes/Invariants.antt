use Rattle.std.proofs.Common.{◌≡◌, ℕ, List, ◌++◌, length}
use Rattle.cps_input.specs.Code.Input.{HasCome}
use Rattle.cps_input.proofs.input.InputTaker.take_bytes.Given as goal

abbrev pub invariant-loop-at : goal.invariant-loop-at
invariant-loop-at l = record {
  front : List ℕ;
  whole : l.bytes ≡ front ++ l.rest;
  come : (taken : List ℕ) → HasCome l.fn.self taken → HasCome l.self (taken ++ front);
}

abbrev pub decreases-loop-at : goal.decreases-loop-at
decreases-loop-at l = length l.rest
