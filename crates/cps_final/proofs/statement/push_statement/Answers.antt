use Rattle.std.proofs.Common.{◌≡◌, ◌<◌, ◌++◌, List, false, length, map, rules, sym, ap, ◌∙◌}
use Rattle.std.proofs.lemmas.Result.{on_ok_weaker}
use Rattle.cps_code.specs.Image.{piece_of}
use Rattle.cps_final.specs.declared.row.Row.{Row}
use Rattle.cps_final.specs.Resolving.{resolved, view_of}
use Rattle.cps_final.specs.Rows.{row_of}
use Rattle.cps_final.proofs.OutcomeLemmas.{contents-rows}
use Rattle.cps_final.proofs.PieceLemmas.{statement-pieces}
use Rattle.cps_final.proofs.statement.push_statement.Goals as goal

pub returns-else-is_empty-clause-rows : goal.returns-else-is_empty-clause-rows
returns-else-is_empty-clause-rows c =
    let item = c.args.item.now in
    let some : 0 < length item.made.contents = search rules in
    let are_bits : item.made.only_flags ≡ false = search rules in
    let shows = contents-rows (resolved c.args.finals.now) item (view_of c.of-statement.result) item.made.contents some are_bits c.of-statement.ensures in
    on_ok_weaker c.push_contents.result
    (λ pushed. pushed ∙ ap (λ (l : List Row). c.args.rows.now.items ++ map (row_of item) l) (sym shows)) c.push_contents.ensures.rows

pub returns-else-is_empty-clause-pieces : goal.returns-else-is_empty-clause-pieces
returns-else-is_empty-clause-pieces c =
    let are_bits : c.args.item.now.made.only_flags ≡ false = search rules in
    on_ok_weaker c.push_contents.result
    (statement-pieces (resolved c.args.finals.now) c.args.item.now (view_of c.of-statement.result) c.base-base.result (map piece_of c.args.pieces.now.items) (map piece_of c.push_skipped.new.pieces.items) _
    c.of-statement.ensures c.base-base.ensures.base are_bits c.in_ok-push_skipped.ensures) c.push_contents.ensures.pieces
