use Rattle.std.proofs.Common.{arith, ◌≡◌, ℕ, ◌+◌, ◌++◌, List, [], length, ap, subst, sym, ◌∙◌}
use Rattle.std.specs.Prelude.{sum}
use Rattle.cps_state.specs.Course.{Trace}
use Rattle.cps_final.specs.Code.Storage.{IsStored}
use Rattle.cps_chunk.specs.Code.Chunk.{lengths_of}
use Rattle.cps_chunk.specs.Code.Looks.{items_before, items_from}
use Rattle.cps_chunk.specs.Code.Walk.{stretch}
use Rattle.cps_chunk.specs.Sparse.{AreWithin, renewed}
use Rattle.cps_chunk.proofs.WalkLemmas.{stretch-long}
use Rattle.cps_live.proofs.PartLemmas.{back-chunks, back-end, back-within, behind-within, front-chunks, front-end, front-within, here-loose, kept-within, left-behind, parts, still-around, still-front}
use Rattle.cps_live.proofs.StoreLemmas.{parts-stored}
use Rattle.cps_live.proofs.storage.storage_around.Goals as goal

pub store_chunks-requires-clause-chunks : goal.store_chunks-requires-clause-chunks
store_chunks-requires-clause-chunks c =
    let one = c.split_at_mut-in_front.ensures in
    let two = c.split_at_mut-behind.ensures in
    let split = c.split_before.ensures in
    let h = parts c.requires.cut c.requires.places one.value one.front one.back two.value two.front two.back (split.before ∙ ap (items_before c.args.cut.now.behind) c.deref.ensures.value)
    (split.from ∙ ap (items_from c.args.cut.now.behind) c.deref.ensures.value) in
    record { room = omega (arith, front-within h, c.requires.cut.few); within = front-within h; chunks = front-chunks h }

pub returns-in_err-store_chunks-clause-chunks : goal.returns-in_err-store_chunks-clause-chunks
returns-in_err-store_chunks-clause-chunks c =
    let one = c.split_at_mut-in_front.ensures in
    let two = c.split_at_mut-behind.ensures in
    let split = c.split_before.ensures in
    let h = parts c.requires.cut c.requires.places one.value one.front one.back two.value two.front two.back (split.before ∙ ap (items_before c.args.cut.now.behind) c.deref.ensures.value)
    (split.from ∙ ap (items_from c.args.cut.now.behind) c.deref.ensures.value) in
    still-front h c.store_chunks.ensures.chunks

pub part-requires-clause-within : goal.part-requires-clause-within
part-requires-clause-within c =
    let one = c.split_at_mut-in_front.ensures in
    let two = c.split_at_mut-behind.ensures in
    let split = c.split_before.ensures in
    let h = parts c.requires.cut c.requires.places one.value one.front one.back two.value two.front two.back (split.before ∙ ap (items_before c.args.cut.now.behind) c.deref.ensures.value)
    (split.from ∙ ap (items_from c.args.cut.now.behind) c.deref.ensures.value) in
    kept-within h

pub returns-in_err-store_all-clause-chunks : goal.returns-in_err-store_all-clause-chunks
returns-in_err-store_all-clause-chunks c =
    let one = c.split_at_mut-in_front.ensures in
    let two = c.split_at_mut-behind.ensures in
    let split = c.split_before.ensures in
    let h = parts c.requires.cut c.requires.places one.value one.front one.back two.value two.front two.back (split.before ∙ ap (items_before c.args.cut.now.behind) c.deref.ensures.value)
    (split.from ∙ ap (items_from c.args.cut.now.behind) c.deref.ensures.value) in
    still-front h c.store_chunks.ensures.chunks

pub returns-in_err-store_all-2-clause-chunks : goal.returns-in_err-store_all-2-clause-chunks
returns-in_err-store_all-2-clause-chunks c =
    let one = c.split_at_mut-in_front.ensures in
    let two = c.split_at_mut-behind.ensures in
    let split = c.split_before.ensures in
    let h = parts c.requires.cut c.requires.places one.value one.front one.back two.value two.front two.back (split.before ∙ ap (items_before c.args.cut.now.behind) c.deref.ensures.value)
    (split.from ∙ ap (items_from c.args.cut.now.behind) c.deref.ensures.value) in
    still-front h c.store_chunks.ensures.chunks

pub part-loose-requires-clause-within : goal.part-loose-requires-clause-within
part-loose-requires-clause-within c =
    let one = c.split_at_mut-in_front.ensures in
    let two = c.split_at_mut-behind.ensures in
    let split = c.split_before.ensures in
    let h = parts c.requires.cut c.requires.places one.value one.front one.back two.value two.front two.back (split.before ∙ ap (items_before c.args.cut.now.behind) c.deref.ensures.value)
    (split.from ∙ ap (items_from c.args.cut.now.behind) c.deref.ensures.value) in
    behind-within h

pub store_renewed-requires : goal.store_renewed-requires
store_renewed-requires c =
    let one = c.split_at_mut-in_front.ensures in
    let two = c.split_at_mut-behind.ensures in
    let split = c.split_before.ensures in
    let h = parts c.requires.cut c.requires.places one.value one.front one.back two.value two.front two.back (split.before ∙ ap (items_before c.args.cut.now.behind) c.deref.ensures.value)
    (split.from ∙ ap (items_from c.args.cut.now.behind) c.deref.ensures.value) in
    let long : c.args.cut.now.from + length c.part-loose.result.now ≡ c.args.cut.now.behind =
    omega (arith, ap length c.part-loose.ensures, stretch-long c.args.cut.now.from c.args.cut.now.behind c.requires.cut.ends c.args.base.traces.now (behind-within h), c.requires.cut.ends) in
    subst (λ (n : ℕ). AreWithin c.args.cut.now.from n c.split_before.result.0.now) (sym long) (here-loose h)

pub returns-in_err-store_renewed-clause-chunks : goal.returns-in_err-store_renewed-clause-chunks
returns-in_err-store_renewed-clause-chunks c =
    let one = c.split_at_mut-in_front.ensures in
    let two = c.split_at_mut-behind.ensures in
    let split = c.split_before.ensures in
    let h = parts c.requires.cut c.requires.places one.value one.front one.back two.value two.front two.back (split.before ∙ ap (items_before c.args.cut.now.behind) c.deref.ensures.value)
    (split.from ∙ ap (items_from c.args.cut.now.behind) c.deref.ensures.value) in
    still-front h c.store_chunks.ensures.chunks

pub store_chunks-requires-2-clause-chunks : goal.store_chunks-requires-2-clause-chunks
store_chunks-requires-2-clause-chunks c =
    let one = c.split_at_mut-in_front.ensures in
    let two = c.split_at_mut-behind.ensures in
    let split = c.split_before.ensures in
    let h = parts c.requires.cut c.requires.places one.value one.front one.back two.value two.front two.back (split.before ∙ ap (items_before c.args.cut.now.behind) c.deref.ensures.value)
    (split.from ∙ ap (items_from c.args.cut.now.behind) c.deref.ensures.value) in
    record { room = omega (arith, back-within h, c.requires.cut.few); within = back-within h; chunks = back-chunks h }

pub store_chunks-requires-2-clause-news : goal.store_chunks-requires-2-clause-news
store_chunks-requires-2-clause-news c =
    let one = c.split_at_mut-in_front.ensures in
    let two = c.split_at_mut-behind.ensures in
    let split = c.split_before.ensures in
    let h = parts c.requires.cut c.requires.places one.value one.front one.back two.value two.front two.back (split.before ∙ ap (items_before c.args.cut.now.behind) c.deref.ensures.value)
    (split.from ∙ ap (items_from c.args.cut.now.behind) c.deref.ensures.value) in
    left-behind h

pub returns-in_err-store_chunks-2-clause-chunks : goal.returns-in_err-store_chunks-2-clause-chunks
returns-in_err-store_chunks-2-clause-chunks c =
    let one = c.split_at_mut-in_front.ensures in
    let two = c.split_at_mut-behind.ensures in
    let split = c.split_before.ensures in
    let h = parts c.requires.cut c.requires.places one.value one.front one.back two.value two.front two.back (split.before ∙ ap (items_before c.args.cut.now.behind) c.deref.ensures.value)
    (split.from ∙ ap (items_from c.args.cut.now.behind) c.deref.ensures.value) in
    still-around h c.store_chunks.ensures.chunks c.store_chunks-2.ensures.chunks

pub returns-clause-chunks : goal.returns-clause-chunks
returns-clause-chunks c =
    let one = c.split_at_mut-in_front.ensures in
    let two = c.split_at_mut-behind.ensures in
    let split = c.split_before.ensures in
    let h = parts c.requires.cut c.requires.places one.value one.front one.back two.value two.front two.back (split.before ∙ ap (items_before c.args.cut.now.behind) c.deref.ensures.value)
    (split.from ∙ ap (items_from c.args.cut.now.behind) c.deref.ensures.value) in
    still-around h c.store_chunks.ensures.chunks c.store_chunks-2.ensures.chunks

pub returns-clause-stored : goal.returns-clause-stored
returns-clause-stored c =
    let one = c.split_at_mut-in_front.ensures in
    let two = c.split_at_mut-behind.ensures in
    let split = c.split_before.ensures in
    let h = parts c.requires.cut c.requires.places one.value one.front one.back two.value two.front two.back (split.before ∙ ap (items_before c.args.cut.now.behind) c.deref.ensures.value)
    (split.from ∙ ap (items_from c.args.cut.now.behind) c.deref.ensures.value) in
    let olds = c.args.base.traces.now in
    let cut = c.args.cut.now in
    let here = c.split_before.result.0.now in
    let left = c.split_before.result.1.now in
    let es = c.deref-2.result.now in
    let a : List Trace = renewed 0 [] (stretch 0 (0 + sum (lengths_of c.split_at_mut-in_front.result.0.now)) olds) in
    let b : List Trace = c.part.result.now in
    let d : List Trace = renewed cut.from here c.part-loose.result.now in
    let same : (((a ++ b) ++ es) ++ d) ++ renewed cut.behind left (stretch cut.behind (cut.behind + sum (lengths_of c.split_at_mut-behind.result.1.now)) olds)
    ≡ (((renewed 0 [] (stretch 0 cut.before olds) ++ stretch cut.before cut.keep olds) ++ es) ++ renewed cut.from here (stretch cut.from cut.behind olds))
    ++ renewed cut.behind left (stretch cut.behind (length olds) olds) =
    λ i. (((renewed 0 [] (stretch 0 (front-end h i) olds) ++ c.part.ensures i) ++ es) ++ renewed cut.from here (c.part-loose.ensures i))
    ++ renewed cut.behind left (stretch cut.behind (back-end h i) olds) in
    let all = c.in_ok-store_chunks-2.ensures.stores (((a ++ b) ++ es) ++ d)
    (c.in_ok-store_renewed.ensures ((a ++ b) ++ es) (c.in_ok-store_all-2.ensures (a ++ b) (c.in_ok-store_all.ensures a (c.in_ok-store_chunks.ensures.stores [] c.new-next.ensures)))) in
    let whole = parts-stored cut c.args.traces.now olds es here left c.requires.cut.begins c.requires.cut.order c.requires.cut.ends (behind-within h) c.requires.places
    (split.before ∙ ap (items_before cut.behind) c.deref.ensures.value) (split.from ∙ ap (items_from cut.behind) c.deref.ensures.value) c.deref-2.ensures.value in
    subst (IsStored c.store_chunks-2.new.storage) (same ∙ whole) all
