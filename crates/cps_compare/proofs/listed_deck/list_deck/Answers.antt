use Rattle.std.proofs.Common.{◌+◌, ◌≤◌, length, take, rules, ap, ◌∙◌, flat_map, ◌++◌, sym, subst}
use Rattle.std.proofs.lemmas.List.{take_all}
use Rattle.cps_claims.specs.Code.Listed.{Lists}
use Rattle.cps_compare.specs.ListedSides.{line_codes, row_codes}
use Rattle.cps_compare.proofs.ListingLemmas.{lines-next}
use Rattle.cps_compare.proofs.listed_deck.list_deck.Goals as goal

pub loop-before-preserved : goal.loop-before-preserved
loop-before-preserved g c =
    let outcomes = (g.V.View.assembly c.args.view.now).outcomes in
    let i = c.loop-before.before in
    subst (Lists c.list_rows.new.deck)
    (ap (λ rows. line_codes 1 (take i outcomes) ++ flat_map (row_codes (i + 1)) rows) c.rows.ensures ∙ lines-next outcomes i c.in-Some.outcome.now c.in-Some.ensures.outcome)
    (c.in_ok-list_rows.ensures (line_codes 1 (take i outcomes)) c.loop-before.invariant)

pub returns : goal.returns
returns g c =
    let outcomes = (g.V.View.assembly c.args.view.now).outcomes in
    let i = c.loop-before.before in
    let all : length outcomes ≤ i = search rules in
    subst (λ l. Lists c.loop-before.deck (line_codes 1 l)) (take_all i outcomes all) c.loop-before.invariant
