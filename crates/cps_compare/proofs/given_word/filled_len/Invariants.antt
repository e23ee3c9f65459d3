use Rattle.std.proofs.Common.{◌≡◌, ◌-◌, take, length}
use Rattle.cps_list.specs.Listing.{trimmed}
use Rattle.cps_compare.proofs.given_word.filled_len.Given as goal

abbrev pub invariant-loop-cut : goal.invariant-loop-cut
invariant-loop-cut l = trimmed l.text ≡ trimmed (take (length l.text - l.cut) l.text)
