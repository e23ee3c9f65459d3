use Rattle.std.proofs.Common.{◌+◌, ◌≤◌, ◌++◌, List, length, take, rules, ap, subst, ◌∙◌}
use Rattle.std.specs.Prelude.{map}
use Rattle.std.proofs.lemmas.List.{take_all}
use Rattle.cps_code.specs.Image.{piece_of}
use Rattle.cps_list.specs.Binary.{pool_pieces}
use Rattle.cps_compare.specs.declared.maker.Maker.TheVariants.{Line, Literal}
use Rattle.cps_compare.specs.Makers.{Signed, signed_by, signed_from}
use Rattle.cps_compare.specs.Code.Deck.{IsDeck}
use Rattle.cps_compare.proofs.DeckLemmas.{signed-next}
use Rattle.cps_compare.proofs.deck_words.DeckWords.of.Goals as goal

pub loop-before-preserved : goal.loop-before-preserved
loop-before-preserved g c =
    let outcomes = (g.V.View.assembly c.args.view.now).outcomes in
    let i = c.loop-before.before in
    subst (λ (l : List Signed). IsDeck l c.add.new.self.words c.add.new.self.makers)
    (ap (λ pieces. signed_from 1 (take i outcomes) ++ map (signed_by (Line (i + 1))) pieces) c.pieces.ensures ∙ signed-next outcomes i c.in-Some.outcome.now c.in-Some.ensures.outcome)
    (c.in_ok-add.ensures (signed_from 1 (take i outcomes)) c.loop-before.invariant)

pub returns : goal.returns
returns g c =
    let outcomes = (g.V.View.assembly c.args.view.now).outcomes in
    let i = c.loop-before.before in
    let all : length outcomes ≤ i = search rules in
    let pool = ap (map piece_of) c.deref.ensures.value ∙ c.in_ok-pool.ensures ∙ ap pool_pieces c.finals.ensures in
    subst (λ (l : List Signed). IsDeck l c.add-2.new.self.words c.add-2.new.self.makers)
    (λ j. signed_from 1 (take_all i outcomes all j) ++ map (signed_by Literal) (pool j))
    (c.in_ok-add-2.ensures (signed_from 1 (take i outcomes)) c.loop-before.invariant)
