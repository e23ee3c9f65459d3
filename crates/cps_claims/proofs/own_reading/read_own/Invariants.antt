use Rattle.std.proofs.Common.{◌≡◌, ◌+◌, ◌≤◌, List, [], ◌++◌, length, map}
use Rattle.std.specs.List.{slice_split}
use Rattle.std.specs.Option.{option_map_or}
use Rattle.cps_claims.specs.Rows.{Row, is_newline}
use Rattle.cps_claims.specs.Listed.{own_row, own_rows}
use Rattle.cps_claims.specs.Code.Listed.{HasRead}
use Rattle.cps_claims.specs.Code.States.{total}
use Rattle.cps_claims.proofs.own_reading.read_own.Given as goal

abbrev pub invariant-loop-rest : goal.invariant-loop-rest
invariant-loop-rest l = record {
  before : List Row;
  read : HasRead before l.reading;
  number : l.number ≡ length before;
  rows : before ++ map (own_row l.offset) (option_map_or (λ text. slice_split is_newline text.now) l.rest []) ≡ own_rows l.offset l.text;
  total : total l.reading.rows.counts ≡ l.number;
  few : l.number + option_map_or (λ text. length text.now + 1) l.rest 0 ≤ length l.text + 1;
}

abbrev pub decreases-loop-rest : goal.decreases-loop-rest
decreases-loop-rest l = option_map_or (λ text. length text.now + 1) l.rest 0
