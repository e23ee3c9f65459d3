use Rattle.std.proofs.Common.{◌≤◌, ◌+◌, List, length, take, sym, ap, subst, ◌∙◌}
use Rattle.std.proofs.lemmas.Bool.{and_from}
use Rattle.std.proofs.lemmas.List.{take_all}
use Rattle.std.proofs.lemmas.List.Folds.{list_all-map, list_all_more}
use Rattle.cps_final.specs.Outcome.{Outcome}
use Rattle.cps_chunk.specs.declared.sparse.SparseItem.{SparseItem}
use Rattle.cps_live.specs.Code.NamesRead.{HasRead, has_all, items_of}
use Rattle.cps_live.specs.declared.names_read.NamesRead.{NamesRead}
use Rattle.cps_live.proofs.NamesReadLemmas.{read-still}
use Rattle.cps_live.proofs.names_read.NamesRead.add_renewed.Goals as goal

pub loop-new-preserved : goal.loop-new-preserved
loop-new-preserved c =
    let was : NamesRead = c.loop-new.self in
    let now : NamesRead = c.add.new.self in
    let news : List (SparseItem Outcome) = c.args.renewed.now in
    let so_far = take c.loop-new.new-index news in
    let has = λ (o : Outcome). has_all now o.read in
    let item = λ (new : SparseItem Outcome). new.item in
    let here = ap (λ (new : SparseItem Outcome). has_all now new.item.read) (sym c.new-item.is) ∙ ap (has_all now) (sym c.names_read.ensures) ∙ c.in_ok-add.ensures.added in
    record {
      still = λ name there. c.add.ensures.still name (c.loop-new.invariant.still name there);
      read = list_all-map has item (take (c.loop-new.new-index + 1) news)
          ∙ list_all_more (λ (new : SparseItem Outcome). has_all now new.item.read) news c.loop-new.new-index c.new-item.result c.loop-new-test.true
          ∙ and_from _ _ (sym (list_all-map has item so_far) ∙ read-still was now c.add.ensures.still (items_of so_far) c.loop-new.invariant.read) here;
    }

pub returns-in_err-add-clause-still : goal.returns-in_err-add-clause-still
returns-in_err-add-clause-still c = λ name there. c.add.ensures.still name (c.loop-new.invariant.still name there)

pub returns-clause-read : goal.returns-clause-read
returns-clause-read c =
    let past : length c.args.renewed.now ≤ c.loop-new.new-index = c.loop-new-test.false in
    subst (λ (news : List (SparseItem Outcome)). HasRead c.loop-new.self (items_of news)) (take_all c.loop-new.new-index c.args.renewed.now past) c.loop-new.invariant.read
