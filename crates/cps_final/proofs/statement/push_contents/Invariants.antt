use Rattle.std.proofs.Common.{◌≡◌, ◌++◌, drop, map, flat_map}
use Rattle.cps_code.specs.Image.{piece_of}
use Rattle.cps_state.specs.Made.{HaveRoom}
use Rattle.cps_final.specs.Places.{with_places}
use Rattle.cps_final.specs.Pieces.{placed, content_pieces}
use Rattle.cps_final.specs.Rows.{content_rows, row_of}
use Rattle.cps_final.specs.Resolving.{view_of}
use Rattle.cps_final.proofs.OutcomeLemmas.{rows_from}
use Rattle.cps_final.proofs.statement.push_contents.Given as goal

abbrev pub invariant-loop-content : goal.invariant-loop-content
invariant-loop-content l = record {
  room : HaveRoom l.machine l.at (drop l.content-index l.item.made.contents);
  rows : l.rows.items ++ map (row_of l.item) (rows_from (view_of l.statement) l.flags l.is_later l.at (drop l.content-index l.item.made.contents))
      ≡ l.fn.rows.items ++ map (row_of l.item)
      (content_rows (view_of l.statement) l.item.made.flags (with_places (view_of l.statement).machine l.item.made.start l.item.made.contents));
  pieces : map piece_of l.pieces.items ++ flat_map (placed l.machine l.base) (content_pieces (view_of l.statement) l.at (drop l.content-index l.item.made.contents))
      ≡ map piece_of l.fn.pieces.items
      ++ flat_map (placed (view_of l.statement).machine (view_of l.statement).base) (content_pieces (view_of l.statement) l.item.made.start l.item.made.contents);
}
