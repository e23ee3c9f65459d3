use Rattle.std.proofs.Common.{◌≡◌, ◌+◌, drop}
use Rattle.cps_claims.specs.Code.Slots.{state_of, with_digits_here}
use Rattle.cps_claims.proofs.claimed_word.ClaimedWord.put_digits.Given as goal

-- the digits so far, and those that are left
abbrev pub invariant-loop-before : goal.invariant-loop-before
invariant-loop-before l =
    with_digits_here l.row (l.place + l.before) (drop l.before l.digits) (state_of l.self) ≡ with_digits_here l.row l.place l.digits (state_of l.fn.self)
