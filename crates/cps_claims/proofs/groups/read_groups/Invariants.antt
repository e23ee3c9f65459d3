use Rattle.std.proofs.Common.{◌≡◌, ◌++◌, length}
use Rattle.std.specs.Option.{option_or}
use Rattle.cps_claims.specs.Rows.{digits_of, wrong_group, is_damaged}
use Rattle.cps_claims.specs.Code.Walk.{parts_left}
use Rattle.cps_claims.proofs.groups.read_groups.Given as goal

abbrev pub invariant-loop-part : goal.invariant-loop-part
invariant-loop-part l = record {
  digits : l.digits.items ++ digits_of (parts_left l.left) ≡ l.fn.digits.items ++ digits_of (parts_left l.fn.rest);
  wrong : option_or l.wrong (wrong_group l.parcel (parts_left l.left)) ≡ wrong_group l.parcel (parts_left l.fn.rest);
  damaged : is_damaged (parts_left l.left) ≡ is_damaged (parts_left l.fn.rest);
}

abbrev pub decreases-loop-part : goal.decreases-loop-part
decreases-loop-part l = length l.left.bytes.now
