use Rattle.std.proofs.Common.{◌≡◌, ◌++◌, drop}
use Rattle.std.specs.Prelude.{map}
use Rattle.cps_compare.specs.declared.maker.Maker.TheVariants.{Nobody}
use Rattle.cps_compare.specs.Told.{maker_rows}
use Rattle.cps_compare.specs.ListedSides.{line_of}
use Rattle.cps_compare.specs.Code.Kept.{statements_at}
use Rattle.cps_compare.proofs.listed_rows.push_lines.Given as goal

abbrev pub invariant-loop-place : goal.invariant-loop-place
invariant-loop-place g l =
    let assembly = g.V.View.assembly l.view in
    l.text.items ++ maker_rows assembly.lines (statements_at assembly l.address) l.last (map (line_of l.deck) (drop l.place-index l.places))
    ≡ l.fn.text.items ++ maker_rows assembly.lines (statements_at assembly l.address) Nobody (map (line_of l.deck) l.places)
