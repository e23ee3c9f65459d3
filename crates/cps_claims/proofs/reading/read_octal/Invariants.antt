use Rattle.std.proofs.Common.{◌≡◌, ◌+◌, ◌^◌, ◌<◌, ◌≤◌, [], length}
use Rattle.std.specs.List.{slice_split}
use Rattle.std.specs.Option.{option_map_or}
use Rattle.cps_claims.specs.Rows.{rows_from, rows_in, is_newline}
use Rattle.cps_claims.specs.Code.Found.{reached}
use Rattle.cps_claims.specs.Code.States.{at_first, state_of, with_rows, total}
use Rattle.cps_claims.proofs.reading.read_octal.Given as goal

abbrev pub invariant-loop-rest : goal.invariant-loop-rest
invariant-loop-rest l = record {
  layout : l.reader.layout ≡ l.fn.layout;
  state : with_rows l.fn.layout.form (l.reader.number + 1) (state_of l.reader.reading) (rows_from l.fn.layout l.reader.stand l.reader.digits.items (option_map_or (λ text. slice_split is_newline text.now) l.rest []))
      ≡ with_rows l.fn.layout.form 1 at_first (rows_in l.fn.layout l.fn.text);
  near : reached l.reader.stand < 2 ^ 40;
  total : total l.reader.reading.rows.counts ≡ l.reader.number;
  few : l.reader.number + option_map_or (λ text. length text.now + 1) l.rest 0 ≤ length l.fn.text + 1;
}

abbrev pub decreases-loop-rest : goal.decreases-loop-rest
decreases-loop-rest l = option_map_or (λ text. length text.now + 1) l.rest 0
