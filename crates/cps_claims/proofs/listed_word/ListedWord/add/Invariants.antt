use Rattle.std.proofs.Common.{◌≡◌, ◌++◌, ◌+◌, ◌-◌, ◌≤◌, take, length, vec_len}
use Rattle.cps_claims.specs.Listed.{listed_by}
use Rattle.cps_claims.proofs.listed_word.ListedWord.add.Given as goal

abbrev pub invariant-loop-digit : goal.invariant-loop-digit
invariant-loop-digit l = record {
  added : l.self.digits.items ≡ l.fn.self.digits.items ++ listed_by l.by (take l.digit-index l.digits);
  few : vec_len l.self.digits + (length l.digits - l.digit-index) ≤ 4294967295;
}
