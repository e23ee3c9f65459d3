use Rattle.std.proofs.Common.{◌≡◌, ◌∷◌, [], ◌++◌, List, length, refl, sym, ap, ◌∙◌, map, append_assoc, append-nil, arith}
use Rattle.std.specs.Vec.Iter.{into_iter_items}
use Rattle.std.proofs.lemmas.List.{map-append}
use Rattle.serde_json.specs.View.{view}
use Rattle.cps_server.specs.declared.outline_row.OutlineRow.{OutlineRow}
use Rattle.cps_server.specs.Code.Outlining.{row_json}
use Rattle.cps_server.proofs.outline_row.jsons_of.Goals as goal

nothing_left : {X : Type 0} (l : List X) → length l ≡ 0 → l ≡ []
nothing_left [] h = refl
nothing_left (x ∷ xs) h = absurd (omega arith)

pub loop-row-preserved : goal.loop-row-preserved
loop-row-preserved c =
    let at = c.loop-row in
    let row = c.in-Some.row in
    let steps : into_iter_items at.row-iterator ≡ row ∷ into_iter_items c.next.new.self = c.in-Some.ensures.steps.0 in (
      append_assoc at.yielded (row ∷ []) _ ∙ rw (← steps) at.invariant.0,
      ap (map view) c.in_ok-push.ensures.items ∙ map-append view at.jsons.items _
          ∙ (λ i. at.invariant.1 i ++ c.into_json.ensures i ∷ []) ∙ sym (map-append row_json at.yielded (row ∷ [])),
      let was = at.invariant.2 in
          let gone = c.in-Some.ensures.steps.1 in
          let short = ap length steps in
          omega arith,
    )

pub returns : goal.returns
returns c =
    let at = c.loop-row in
    let none = c.in-None.ensures.steps in
    let empty : into_iter_items at.row-iterator ≡ [] = nothing_left _ (sym at.invariant.2 ∙ none.0) in
    let all = sym (append-nil at.yielded) ∙ rw empty at at.invariant.0 ∙ c.into_iter-row-iterator.ensures.into_iter_gives.0 in
    at.invariant.1 ∙ ap (λ (rows : List OutlineRow). map row_json rows) all
