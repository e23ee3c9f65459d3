use Rattle.std.proofs.Common.{◌≡◌, ◌≤◌, take}
use Rattle.cps_text.specs.Digits.{digits_number}
use Rattle.cps_text.proofs.data_item.read_count.Given as goal

abbrev pub invariant-loop-digit : goal.invariant-loop-digit
invariant-loop-digit l = (l.count ≡ digits_number 10 (take l.digit-index l.digits)) × (l.count ≤ l.most)
