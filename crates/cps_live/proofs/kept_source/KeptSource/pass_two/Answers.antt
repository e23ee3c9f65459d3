use Rattle.std.proofs.Common.{refl, List, length, ap, subst, sym, ◌∙◌, ◌++◌}
use Rattle.cps_state.specs.Course.{Trace}
use Rattle.cps_final.specs.Outcome.{Outcome}
use Rattle.cps_edit.specs.Passes.{outcomes_by}
use Rattle.cps_chunk.specs.Code.Chunk.{lengths_of}
use Rattle.cps_final.specs.declared.ends.Ends.{Ends}
use Rattle.cps_chunk.specs.declared.walk.Baseline.{Baseline}
use Rattle.cps_final.specs.Code.Ends.{was_of, now_of}
use Rattle.cps_chunk.specs.declared.sparse.SparseItem.{SparseItem}
use Rattle.cps_live.specs.Code.NamesRead.{HasRead, HasReadBy, items_of}
use Rattle.cps_live.specs.Code.SecondPass.{redone_around}
use Rattle.cps_live.proofs.KeptLemmas.{are-same, entered-traces, kept-read, trace-places, traces-long}
use Rattle.cps_live.proofs.AgainLemmas.{around-is, chunks-again, done-again, fail-again, fail-entered, lengths-again}
use Rattle.cps_live.proofs.NamesReadLemmas.{read-still}
use Rattle.cps_live.proofs.kept_source.KeptSource.pass_two.Goals as goal

pub returns-in_err-entered-clause-work : goal.returns-in_err-entered-clause-work
returns-in_err-entered-clause-work c =
    let h = c.requires in
    let long = ap length c.deref-3.ensures.value ∙ entered-traces h.kept h.cut h.traces in
    fail-entered c.args.self.now c.args.cut.now _ _ c.from_residual.ensures.0 long c.step_two_all.ensures.looked c.step_two_all.ensures.steps

pub new-requires : goal.new-requires
new-requires c = subst (λ (ts : List Trace). HasReadBy c.args.self.now.read ts) (sym c.deref-2.ensures.value) (kept-read c.args.self.now c.requires.kept)

pub returns-in_err-pass-clause-work : goal.returns-in_err-pass-clause-work
returns-in_err-pass-clause-work c =
    let h = c.requires in
    let long = ap length c.deref-3.ensures.value ∙ entered-traces h.kept h.cut h.traces in
    fail-entered c.args.self.now c.args.cut.now _ _ c.from_residual-in_err-pass.ensures.0 long c.step_two_all.ensures.looked c.step_two_all.ensures.steps

pub go_around-requires-clause-news : goal.go_around-requires-clause-news
go_around-requires-clause-news c =
    let h = c.requires in
    let did = ap (λ (b : Baseline). length b.traces.now) c.in_ok-pass.ensures.base ∙ ap length c.deref-2.ensures.value ∙ traces-long h.kept h.cut in
    trace-places h.kept h.cut _ h.traces c.deref-4.ensures.value did

pub returns-in_err-go_around-clause-kept : goal.returns-in_err-go_around-clause-kept
returns-in_err-go_around-clause-kept c =
    let h = c.requires in
    let did = ap (λ (b : Baseline). b.traces.now) c.in_ok-pass.ensures.base ∙ c.deref-2.ensures.value in
    let same = ap (λ (b : Baseline). b.hashing) c.in_ok-pass.ensures.base in
    let still = c.go_around.ensures.chunks in
    are-same h.kept refl refl refl refl (chunks-again c.args.self.now h.kept.chunks c.deref_mut.ensures.value did same still)
    (lengths-again c.args.self.now c.deref_mut.ensures.value still) (λ name here. here)

pub returns-in_err-go_around-clause-work : goal.returns-in_err-go_around-clause-work
returns-in_err-go_around-clause-work c =
    let h = c.requires in
    let pass = c.in_ok-pass.ensures in
    let was = ap (λ (e : Ends). was_of e) pass.ends ∙ h.ends.before in
    let now = ap (λ (e : Ends). now_of e) pass.ends ∙ h.ends.after in
    let did = ap (λ (b : Baseline). b.traces.now) pass.base ∙ c.deref-2.ensures.value ∙ h.kept.did in
    let new = c.deref-4.ensures.value ∙ h.traces.renewed in
    let long = ap length c.deref-3.ensures.value ∙ entered-traces h.kept h.cut h.traces in
    fail-again c.args.self.now h.cut c.in_ok-pass.pass c.deref-4.result.now was now did new _ long c.in_ok-entered.ensures.steps _ (ap lengths_of c.deref_mut.ensures.value)
    c.in_ok-entered.ensures.looked c.go_around.ensures.looked _ c.from_residual-in_err-go_around.ensures.0 c.go_around.ensures.steps

pub returns-in_err-add_all-clause-kept : goal.returns-in_err-add_all-clause-kept
returns-in_err-add_all-clause-kept c =
    let h = c.requires in
    let did = ap (λ (b : Baseline). b.traces.now) c.in_ok-pass.ensures.base ∙ c.deref-2.ensures.value in
    let same = ap (λ (b : Baseline). b.hashing) c.in_ok-pass.ensures.base in
    let still = c.go_around.ensures.chunks in
    are-same h.kept refl refl refl refl (chunks-again c.args.self.now h.kept.chunks c.deref_mut.ensures.value did same still)
    (lengths-again c.args.self.now c.deref_mut.ensures.value still) (c.add_all.ensures.still)

pub returns-in_err-add_all-clause-work : goal.returns-in_err-add_all-clause-work
returns-in_err-add_all-clause-work c =
    let h = c.requires in
    let pass = c.in_ok-pass.ensures in
    let was = ap (λ (e : Ends). was_of e) pass.ends ∙ h.ends.before in
    let now = ap (λ (e : Ends). now_of e) pass.ends ∙ h.ends.after in
    let did = ap (λ (b : Baseline). b.traces.now) pass.base ∙ c.deref-2.ensures.value ∙ h.kept.did in
    let new = c.deref-4.ensures.value ∙ h.traces.renewed in
    let long = ap length c.deref-3.ensures.value ∙ entered-traces h.kept h.cut h.traces in
    fail-again c.args.self.now h.cut c.in_ok-pass.pass c.deref-4.result.now was now did new _ long c.in_ok-entered.ensures.steps _ (ap lengths_of c.deref_mut.ensures.value)
    c.in_ok-entered.ensures.looked c.go_around.ensures.looked _ c.from_residual-in_err-add_all.ensures.0 c.go_around.ensures.steps

pub returns-in_err-add_renewed-clause-kept : goal.returns-in_err-add_renewed-clause-kept
returns-in_err-add_renewed-clause-kept c =
    let h = c.requires in
    let did = ap (λ (b : Baseline). b.traces.now) c.in_ok-pass.ensures.base ∙ c.deref-2.ensures.value in
    let same = ap (λ (b : Baseline). b.hashing) c.in_ok-pass.ensures.base in
    let still = c.go_around.ensures.chunks in
    are-same h.kept refl refl refl refl (chunks-again c.args.self.now h.kept.chunks c.deref_mut.ensures.value did same still)
    (lengths-again c.args.self.now c.deref_mut.ensures.value still) (λ name here. c.add_renewed.ensures.still name (c.add_all.ensures.still name here))

pub returns-in_err-add_renewed-clause-work : goal.returns-in_err-add_renewed-clause-work
returns-in_err-add_renewed-clause-work c =
    let h = c.requires in
    let pass = c.in_ok-pass.ensures in
    let was = ap (λ (e : Ends). was_of e) pass.ends ∙ h.ends.before in
    let now = ap (λ (e : Ends). now_of e) pass.ends ∙ h.ends.after in
    let did = ap (λ (b : Baseline). b.traces.now) pass.base ∙ c.deref-2.ensures.value ∙ h.kept.did in
    let new = c.deref-4.ensures.value ∙ h.traces.renewed in
    let long = ap length c.deref-3.ensures.value ∙ entered-traces h.kept h.cut h.traces in
    fail-again c.args.self.now h.cut c.in_ok-pass.pass c.deref-4.result.now was now did new _ long c.in_ok-entered.ensures.steps _ (ap lengths_of c.deref_mut.ensures.value)
    c.in_ok-entered.ensures.looked c.go_around.ensures.looked _ c.from_residual-in_err-add_renewed.ensures.0 c.go_around.ensures.steps

pub returns-clause-kept : goal.returns-clause-kept
returns-clause-kept c =
    let h = c.requires in
    let did = ap (λ (b : Baseline). b.traces.now) c.in_ok-pass.ensures.base ∙ c.deref-2.ensures.value in
    let same = ap (λ (b : Baseline). b.hashing) c.in_ok-pass.ensures.base in
    let still = c.go_around.ensures.chunks in
    are-same h.kept refl refl refl refl (chunks-again c.args.self.now h.kept.chunks c.deref_mut.ensures.value did same still)
    (lengths-again c.args.self.now c.deref_mut.ensures.value still) (λ name here. c.add_renewed.ensures.still name (c.add_all.ensures.still name here))

pub returns-clause-made : goal.returns-clause-made
returns-clause-made c =
    let h = c.requires in
    let pass = c.in_ok-pass.ensures in
    let was = ap (λ (e : Ends). was_of e) pass.ends ∙ h.ends.before in
    let now = ap (λ (e : Ends). now_of e) pass.ends ∙ h.ends.after in
    let did = ap (λ (b : Baseline). b.traces.now) pass.base ∙ c.deref-2.ensures.value ∙ h.kept.did in
    let around = around-is c.args.self.now h.cut c.in_ok-pass.pass c.deref-4.result.now was now did (c.deref-4.ensures.value ∙ h.traces.renewed) in
    let entered = c.deref-3.ensures.value ∙ h.traces.entered in
    record {
      entered = c.in_ok-entered.ensures.outcomes ∙ (λ i. outcomes_by (h.ends.after i) (entered i));
      renewed = ap (λ v. v.items) c.into_news-renewed.ensures ∙ c.in_ok-go_around.ensures.over.made ∙ ap (λ us. us ++ redone_around c.in_ok-pass.pass c.args.cut.now c.deref-4.result.now) pass.news ∙ around;
    }

pub returns-clause-work : goal.returns-clause-work
returns-clause-work c =
    let h = c.requires in
    let pass = c.in_ok-pass.ensures in
    let was = ap (λ (e : Ends). was_of e) pass.ends ∙ h.ends.before in
    let now = ap (λ (e : Ends). now_of e) pass.ends ∙ h.ends.after in
    let did = ap (λ (b : Baseline). b.traces.now) pass.base ∙ c.deref-2.ensures.value ∙ h.kept.did in
    let new = c.deref-4.ensures.value ∙ h.traces.renewed in
    let long = ap length c.deref-3.ensures.value ∙ entered-traces h.kept h.cut h.traces in
    done-again c.args.self.now h.cut c.in_ok-pass.pass c.deref-4.result.now was now did new _ long c.in_ok-entered.ensures.steps _ (ap lengths_of c.deref_mut.ensures.value)
    c.in_ok-entered.ensures.looked c.go_around.ensures.looked c.in_ok-go_around.ensures.steps

pub returns-clause-read : goal.returns-clause-read
returns-clause-read c = record {
  entered = read-still c.add_all.new.self c.add_renewed.new.self c.add_renewed.ensures.still c.in_ok-entered.entered.items
      (subst (λ (os : List Outcome). HasRead c.add_all.new.self os) c.deref-5.ensures.value c.in_ok-add_all.ensures.read);
  renewed = subst (λ (news : List (SparseItem Outcome)). HasRead c.add_renewed.new.self (items_of news)) c.deref-6.ensures.value c.in_ok-add_renewed.ensures.read;
}
