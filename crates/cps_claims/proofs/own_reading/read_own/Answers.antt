use Rattle.std.proofs.Common.{◌≡◌, [], ◌++◌, map, sym, ap, ◌∙◌, append-nil}
use Rattle.std.specs.List.{slice_split}
use Rattle.std.specs.Option.{option_map_or}
use Rattle.cps_claims.specs.Rows.{is_newline}
use Rattle.cps_claims.specs.Listed.{own_row, own_rows}
use Rattle.cps_claims.specs.Code.States.{no_kinds, with_kinds}
use Rattle.cps_claims.proofs.ReadingLemmas.{are-kinds}
use Rattle.cps_claims.proofs.own_reading.read_own.Goals as goal

pub returns-clause-rows : goal.returns-clause-rows
returns-clause-rows c =
    let all = own_rows c.args.offset c.args.text.now in
    let was = c.loop-rest.invariant in
    let end : was.before ≡ all =
    sym (append-nil was.before)
    ∙ ap (λ rest. was.before ++ map (own_row c.args.offset) (option_map_or (λ text. slice_split is_newline text.now) rest [])) (sym c.in_default.is)
    ∙ was.rows in
    are-kinds all c.loop-rest.reading.rows (was.read.kinds ∙ ap (with_kinds 1 no_kinds) end)
