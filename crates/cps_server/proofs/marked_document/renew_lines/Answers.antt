use Rattle.std.proofs.Common.{ℕ, ◌+◌, List, drop, subst}
use Rattle.std.proofs.lemmas.List.{drop_all, drop_more}
use Rattle.cps_server.specs.Code.Keeping.{AreKeptBut}
use Rattle.cps_server.proofs.marked_document.renew_lines.Goals as goal

pub renew-requires : goal.renew-requires
renew-requires c = c.loop-place.invariant.count

pub loop-place-preserved : goal.loop-place-preserved
loop-place-preserved c =
    let places = c.args.places.now in
    let at = c.loop-place.place-index in
    c.in_ok-renew.ensures (drop (at + 1) places)
    (subst (λ (stale : List ℕ). AreKeptBut c.args.document.now stale c.loop-place.kept.items) (drop_more places at _ c.loop-place-test.true)
    c.loop-place.invariant)

pub returns : goal.returns
returns c =
    subst (λ (stale : List ℕ). AreKeptBut c.args.document.now stale c.loop-place.kept.items)
    (drop_all c.loop-place.place-index c.args.places.now c.loop-place-test.false) c.loop-place.invariant
