use Rattle.std.proofs.Common.{rules, ◌≡◌, ◌<◌, ◌∙◌, ◌∷◌, [], ap, sym, true, length}
use Rattle.cps_chunk.specs.Code.Storing.{left_by}
use Rattle.cps_chunk.proofs.SparseLemmas.{renewed-none}
use Rattle.cps_live.specs.Code.Storing.{left_by_each}
use Rattle.cps_live.proofs.RenewedLemmas.{place-within}
use Rattle.cps_live.proofs.StoredLemmas.{each-next, each-all}
use Rattle.cps_live.proofs.storage.leave_same_each.Goals as goal

pub loop-new-init : goal.loop-new-init
loop-new-init c = ap left_by_each (renewed-none 0 c.args.olds.now)

pub offset_bounds-olds-new : goal.offset_bounds-olds-new
offset_bounds-olds-new c =
    let lt : c.new-item.result.at < length c.args.olds.now =
    place-within 0 (length c.args.olds.now) c.loop-new.new-index c.args.news.now c.new-item.result c.loop-new-test.true c.new-item.is c.requires in
    search rules

pub bounds-olds-new : goal.bounds-olds-new
bounds-olds-new c = place-within 0 (length c.args.olds.now) c.loop-new.new-index c.args.news.now c.new-item.result c.loop-new-test.true c.new-item.is c.requires

pub loop-new-preserved : goal.loop-new-preserved
loop-new-preserved c =
    let old = c.index-olds-new.result in
    let new = c.new-item.result in
    let yes : c.leave_same.result ≡ true = search rules in
    let here : c.from_ref.result.now ≡ old ∷ [] = c.from_ref.ensures.value in
    let there : c.from_ref-in-loop-new.result.now ≡ new.item ∷ [] = c.from_ref-in-loop-new.ensures.value in
    let same : left_by (old ∷ []) ≡ left_by (new.item ∷ []) = sym (ap left_by here) ∙ c.leave_same.ensures yes ∙ ap left_by there in
    each-next c.args.olds.now c.args.news.now c.loop-new.new-index new old c.loop-new-test.true c.new-item.is c.requires c.index-olds-new.is same c.loop-new.invariant

pub returns : goal.returns
returns c _ = each-all c.args.olds.now c.args.news.now c.loop-new.new-index c.loop-new-test.false c.loop-new.invariant
