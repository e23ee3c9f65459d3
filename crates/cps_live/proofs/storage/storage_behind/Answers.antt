use Rattle.std.proofs.Common.{arith, rules, ◌≡◌, ◌-◌, ◌∙◌, ap, sym, subst, length, take, drop, List}
use Rattle.cps_state.specs.Course.{Trace}
use Rattle.cps_final.specs.Code.Storage.{IsStored}
use Rattle.cps_chunk.specs.declared.sparse.SparseItem.{SparseItem}
use Rattle.cps_chunk.specs.Sparse.{AreWithin, renewed}
use Rattle.cps_chunk.specs.Code.Storing.{left_by}
use Rattle.cps_chunk.proofs.SparseLemmas.{AreWithin-wider}
use Rattle.cps_live.proofs.StoredLemmas.{append-edited, left-same, stored-edited}
use Rattle.cps_live.proofs.PartLemmas.{cut-within, still-same}
use Rattle.cps_live.proofs.storage.storage_behind.Goals as goal

pub leave_same_each-requires : goal.leave_same_each-requires
leave_same_each-requires c =
    let b = length c.args.base.traces.now in
    subst (λ (news : List (SparseItem Trace)). AreWithin 0 b news) (sym c.deref-then-leave_same.ensures.value)
    (AreWithin-wider c.args.cut.now.from b 0 b c.args.traces.now.renewed.items (omega arith) (omega arith) c.requires.places)

pub returns-then-leave_same_each-clause-stored : goal.returns-then-leave_same_each-clause-stored
returns-then-leave_same_each-clause-stored c =
    let olds = c.args.base.traces.now in
    let cut = c.args.cut.now in
    let gone : left_by (take (cut.from - cut.keep) (drop cut.keep olds)) ≡ left_by c.args.traces.now.entered.items =
    c.leave_same.ensures c.if-leave_same.true ∙ ap left_by c.deref.ensures.value in
    let each : left_by (renewed 0 c.args.traces.now.renewed.items olds) ≡ left_by olds =
    ap (λ (news : List (SparseItem Trace)). left_by (renewed 0 news olds)) (sym c.deref-then-leave_same.ensures.value)
    ∙ left-same (renewed 0 c.deref-then-leave_same.result.now olds) olds (c.leave_same_each.ensures c.if-leave_same_each.true) in
    stored-edited cut c.args.traces.now olds c.requires.cut.order c.requires.places gone each

pub returns-then-cut-olds-clause-stored : goal.returns-then-cut-olds-clause-stored
returns-then-cut-olds-clause-stored c =
    let olds = c.args.base.traces.now in
    let last : c.args.cut.now.keep ≡ length olds = omega arith in
    let copied : IsStored c.in_ok-next.next olds = c.in_ok-next.ensures ∙ c.requires.stored in
    subst (IsStored c.store_all.new.storage)
    (append-edited c.args.cut.now c.args.traces.now olds c.deref-then-cut-olds.result.now last c.requires.cut.order c.deref-then-cut-olds.ensures.value)
    (c.in_ok-store_all.ensures olds copied)

-- ---- the lines of the cut are there, and chunks stay

pub offset_bounds-olds-cut : goal.offset_bounds-olds-cut
offset_bounds-olds-cut c = let le = cut-within c.requires.cut in search rules

pub slice_bounds-leave_same-end : goal.slice_bounds-leave_same-end
slice_bounds-leave_same-end c = cut-within c.requires.cut

pub returns-then-leave_same_each-clause-chunks : goal.returns-then-leave_same_each-clause-chunks
returns-then-leave_same_each-clause-chunks c = still-same c.requires.cut

pub returns-then-cut-olds-clause-chunks : goal.returns-then-cut-olds-clause-chunks
returns-then-cut-olds-clause-chunks c = still-same c.requires.cut
