use Rattle.std.proofs.Common.{rules, ◌≡◌, ◌+◌, ◌++◌, true, [], List, length, sym, ap, subst, ◌∙◌}
use Rattle.std.specs.Prelude.{IfSome, OnOk, Option}
use Rattle.std.proofs.lemmas.Bool.{eqb-true}
use Rattle.std.proofs.lemmas.List.{nil_from_length}
use Rattle.cps_state.specs.Course.{Trace}
use Rattle.cps_final.specs.Code.Storage.{IsStored}
use Rattle.cps_final.specs.declared.storage.Storage.{Storage}
use Rattle.cps_chunk.specs.declared.sparse.SparseItem.{SparseItem}
use Rattle.cps_chunk.specs.Sparse.{renewed}
use Rattle.cps_chunk.specs.Code.Storing.{StoresAlso}
use Rattle.cps_chunk.specs.Code.Walk.{stretch}
use Rattle.cps_chunk.proofs.SparseLemmas.{renewed-none}
use Rattle.cps_chunk.proofs.StoringLemmas.{on_ok}
use Rattle.cps_live.proofs.storage.store_chunk.Goals as goal

pub returns-then-not-is_empty-clause-stores : goal.returns-then-not-is_empty-clause-stores
returns-then-not-is_empty-clause-stores c =
    subst (λ (us : List Trace). OnOk c.store_renewed.result (StoresAlso c.args.storage.now c.store_renewed.new.storage (renewed c.args.at c.args.news.now us))) c.part-olds.ensures
    c.store_renewed.ensures

pub returns-in-Some-clause-stores : goal.returns-in-Some-clause-stores
returns-in-Some-clause-stores c =
    let news = c.args.news.now in
    let olds = c.part-olds.result.now in
    let empty : c.is_empty.result ≡ true = search rules in
    let none : news ≡ [] = nil_from_length news (eqb-true (length news) 0 (sym c.is_empty.ensures ∙ empty)) in
    let own : IsStored c.in-Some.own olds =
    subst (λ (storage : Option Storage). IfSome storage (λ storage. IsStored storage olds)) c.in-Some.is c.in_ok-gather_storage.ensures.chunk.storage in
    let part : List Trace = stretch c.args.at (c.args.at + c.args.chunk.now.lines) c.args.base.traces.now in
    let same : olds ≡ renewed c.args.at news part =
    c.part-olds.ensures ∙ sym (ap (λ (ns : List (SparseItem Trace)). renewed c.args.at ns part) none ∙ renewed-none c.args.at part) in
    on_ok c.join.result (λ behind before is. subst (λ (us : List Trace). IsStored c.join.new.self (before ++ us)) same (behind before olds is own)) c.join.ensures.ok
