use Rattle.std.proofs.Common.{◌<◌, List, ◌++◌, length, drop, map, flat_map, rules, refl, ap, ◌∙◌}
use Rattle.cps_code.specs.Image.{piece_of}
use Rattle.cps_final.specs.declared.row.Row.{Row}
use Rattle.cps_final.specs.Pieces.{placed, content_pieces}
use Rattle.cps_final.specs.Rows.{row_of}
use Rattle.cps_final.specs.Resolving.{view_of}
use Rattle.cps_final.proofs.OutcomeLemmas.{rows_from-given, step, rows-next}
use Rattle.cps_final.proofs.PieceLemmas.{room-given, room-low, content-next}
use Rattle.cps_final.proofs.statement.push_contents.Goals as goal

pub behind-at-requires-clause-low : goal.behind-at-requires-clause-low
behind-at-requires-clause-low c =
    room-low c.machine-machine.result c.loop-content.at (drop c.loop-content.content-index c.args.item.now.made.contents) c.loop-content.invariant.room

pub loop-content-init : goal.loop-content-init
loop-content-init c =
    let item = c.args.item.now in
    let made = item.made in
    let statement = view_of c.args.statement.now in
    let of = c.machine-machine.ensures in
    let based = c.base-base.ensures.base in
    let starts = c.start-at.ensures in
    record {
      room = room-given c.machine-machine.result c.start-at.result made (of ∙ c.requires.same) starts (c.contents-content-items.ensures.room c.requires.are_bits);
      rows = ap (λ (l : List Row). c.args.rows.now.items ++ map (row_of item) l)
          (rows_from-given statement statement _ _ made.start c.start-at.result made.contents refl c.flags-flags.ensures starts);
      pieces = λ i. map piece_of c.args.pieces.now.items ++ flat_map (placed (of i) (based i)) (content_pieces statement (starts i) made.contents);
    }

pub loop-content-preserved : goal.loop-content-preserved
loop-content-preserved c =
    let item = c.args.item.now in
    let contents = item.made.contents in
    let walked = c.contents-content-items.result.now in
    let statement = view_of c.args.statement.now in
    let machine = c.machine-machine.result in
    let of = c.machine-machine.ensures in
    let same = c.contents-content-items.ensures.contents in
    let now = c.loop-content in
    let next = c.behind-at.result in
    let content = c.content-item.result in
    let row = c.row_at-row.result in
    let within : now.content-index < length walked = search rules in
    let so = step statement contents walked machine now.flags now.is_later now.at next c.width-width.result now.content-index content row
    of same within c.content-item.is c.width-width.ensures.width c.behind-at.ensures c.row_at-row.ensures in
    let both = content-next statement walked contents machine now.at c.width-width.result c.value_content-valued.result.number next
    now.content-index content of same within c.content-item.is c.width-width.ensures.width
    c.value_content-valued.ensures.number c.behind-at.ensures (placed machine c.base-base.result) (map piece_of now.pieces.items)
    (map piece_of c.push_run.new.pieces.items) _ c.in_ok-push_run.ensures now.invariant.room now.invariant.pieces in
    record {
      room = both.0;
      rows = rows-next statement contents machine now.flags now.is_later now.at next now.content-index content row so
          item now.rows.items c.push_row.new.rows.items _ c.none-flags.result c.in_ok-push_row.ensures c.none-flags.ensures now.invariant.rows;
      pieces = both.1;
    }
