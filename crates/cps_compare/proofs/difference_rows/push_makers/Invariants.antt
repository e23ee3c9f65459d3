use Rattle.std.proofs.Common.{◌≡◌, ◌++◌, drop}
use Rattle.std.specs.Prelude.{map}
use Rattle.cps_compare.specs.declared.maker.Maker.TheVariants.{Nobody}
use Rattle.cps_compare.specs.Told.{maker_rows}
use Rattle.cps_compare.specs.Code.Deck.{maker_at}
use Rattle.cps_compare.specs.Code.Kept.{statements_at}
use Rattle.cps_compare.proofs.difference_rows.push_makers.Given as goal

abbrev pub invariant-loop-place : goal.invariant-loop-place
invariant-loop-place g l =
    let assembly = g.V.View.assembly l.view in
    l.text.items ++ maker_rows assembly.lines (statements_at assembly l.address) l.last (map (maker_at l.makers l.address) (drop l.place-index l.places))
    ≡ l.fn.text.items ++ maker_rows assembly.lines (statements_at assembly l.address) Nobody (map (maker_at l.makers l.address) l.places)
