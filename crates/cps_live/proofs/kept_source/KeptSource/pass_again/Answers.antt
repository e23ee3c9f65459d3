use Rattle.std.proofs.Common.{arith, refl, sym, List, ap, subst, length, ◌∙◌, ◌++◌, ℕ, ◌+◌, ◌≤◌}
use Rattle.std.specs.Prelude.{sum}
use Rattle.cps_state.specs.Course.{Trace}
use Rattle.cps_final.specs.Outcome.{Outcome}
use Rattle.cps_chunk.specs.Code.Chunk.{lengths_of}
use Rattle.cps_edit.specs.Compares.{ComparesUpTo}
use Rattle.cps_final.specs.declared.ends.Ends.{Ends}
use Rattle.cps_chunk.specs.declared.walk.Baseline.{Baseline}
use Rattle.cps_final.specs.Code.Ends.{was_of, now_of}
use Rattle.cps_chunk.specs.Sparse.{AreWithin}
use Rattle.cps_live.specs.Code.Exchanged.{redone_by}
use Rattle.cps_chunk.specs.declared.sparse.SparseItem.{SparseItem}
use Rattle.cps_live.specs.Code.NamesRead.{HasRead, HasReadBy, items_of}
use Rattle.cps_live.specs.Code.SecondPass.{redone_in}
use Rattle.cps_live.proofs.KeptLemmas.{are-same, kept-read}
use Rattle.cps_live.proofs.AgainLemmas.{chunks-again, lengths-again, steps-of}
use Rattle.cps_live.proofs.CountLemmas.{steps-fail}
use Rattle.cps_live.proofs.ExchangeLemmas.{all-end, all-looks, all-redone, all-stand, steps-as}
use Rattle.cps_live.proofs.kept_source.KeptSource.pass_again.Goals as goal

pub new-requires : goal.new-requires
new-requires c = subst (λ (ts : List Trace). HasReadBy c.args.self.now.read ts) (sym c.deref-2.ensures.value) (kept-read c.args.self.now c.requires.kept)

pub go_over_chunks-requires-clause-chunks : goal.go_over_chunks-requires-clause-chunks
go_over_chunks-requires-clause-chunks c =
    let h = c.requires in
    let did = ap (λ (b : Baseline). b.traces.now) c.in_ok-pass.ensures.base ∙ c.deref-2.ensures.value in
    let same = ap (λ (b : Baseline). b.hashing) c.in_ok-pass.ensures.base in
    all-stand c.args.self.now h.kept c.in_ok-pass.pass _ c.deref_mut.ensures.value did same (omega (arith, h.few, c.args.self.now.lines.ok.0))

pub go_over_chunks-requires-clause-news : goal.go_over_chunks-requires-clause-news
go_over_chunks-requires-clause-news c =
    let h = c.requires in
    let did = ap (λ (b : Baseline). b.traces.now) c.in_ok-pass.ensures.base ∙ c.deref-2.ensures.value in
    let same = ap (λ (b : Baseline). b.hashing) c.in_ok-pass.ensures.base in
    let end = all-end c.args.self.now h.kept c.in_ok-pass.pass _ c.deref_mut.ensures.value did same in
    subst (λ (n : ℕ). AreWithin 0 n c.args.traces.now) (c.args.self.now.lines.ok.0 ∙ sym end) h.news

pub returns-in_err-go_over_chunks-clause-kept : goal.returns-in_err-go_over_chunks-clause-kept
returns-in_err-go_over_chunks-clause-kept c =
    let h = c.requires in
    let did = ap (λ (b : Baseline). b.traces.now) c.in_ok-pass.ensures.base ∙ c.deref-2.ensures.value in
    let same = ap (λ (b : Baseline). b.hashing) c.in_ok-pass.ensures.base in
    let still = c.go_over_chunks.ensures.chunks in
    are-same h.kept refl refl refl refl (chunks-again c.args.self.now h.kept.chunks c.deref_mut.ensures.value did same still)
    (lengths-again c.args.self.now c.deref_mut.ensures.value still) (λ name here. here)

pub returns-in_err-go_over_chunks-clause-steps : goal.returns-in_err-go_over_chunks-clause-steps
returns-in_err-go_over_chunks-clause-steps c =
    let pass = c.in_ok-pass.ensures in
    let did = ap (λ (b : Baseline). b.traces.now) pass.base ∙ c.deref-2.ensures.value in
    let same = ap (λ (b : Baseline). b.hashing) pass.base in
    let all = all-redone c.args.self.now c.requires.kept c.in_ok-pass.pass _ c.deref_mut.ensures.value did same _ _ (ap (λ (e : Ends). was_of e) pass.ends) (ap (λ (e : Ends). now_of e) pass.ends)
    c.args.traces.now in
    let most : length (redone_in c.in_ok-pass.pass 0 (0 + sum (lengths_of c.deref_mut.result.now)) c.args.traces.now) ≤ length (redone_by c.args.self.now c.args.patch.now c.args.traces.now) =
    omega (arith, ap length all) in
    steps-of c.from_residual-in_err-go_over_chunks.ensures.0 (steps-fail c.args.work.now c.go_over_chunks.new.work _ _ most c.go_over_chunks.ensures.steps)

pub returns-in_err-go_over_chunks-clause-looked : goal.returns-in_err-go_over_chunks-clause-looked
returns-in_err-go_over_chunks-clause-looked c =
    let pass = c.in_ok-pass.ensures in
    let did = ap (λ (b : Baseline). b.traces.now) pass.base ∙ c.deref-2.ensures.value in
    let same = ap (λ (b : Baseline). b.hashing) pass.base in
    let all = all-looks c.args.self.now c.requires.kept c.in_ok-pass.pass _ c.deref_mut.ensures.value did same _ _ (ap (λ (e : Ends). was_of e) pass.ends) (ap (λ (e : Ends). now_of e) pass.ends)
    c.args.traces.now in
    subst (λ (n : ℕ). ComparesUpTo c.args.work.now c.go_over_chunks.new.work n) all c.go_over_chunks.ensures.looked

pub returns-in_err-add_renewed-clause-kept : goal.returns-in_err-add_renewed-clause-kept
returns-in_err-add_renewed-clause-kept c =
    let h = c.requires in
    let did = ap (λ (b : Baseline). b.traces.now) c.in_ok-pass.ensures.base ∙ c.deref-2.ensures.value in
    let same = ap (λ (b : Baseline). b.hashing) c.in_ok-pass.ensures.base in
    let still = c.go_over_chunks.ensures.chunks in
    are-same h.kept refl refl refl refl (chunks-again c.args.self.now h.kept.chunks c.deref_mut.ensures.value did same still)
    (lengths-again c.args.self.now c.deref_mut.ensures.value still) c.add_renewed.ensures.still

pub returns-in_err-add_renewed-clause-steps : goal.returns-in_err-add_renewed-clause-steps
returns-in_err-add_renewed-clause-steps c =
    let pass = c.in_ok-pass.ensures in
    let did = ap (λ (b : Baseline). b.traces.now) pass.base ∙ c.deref-2.ensures.value in
    let same = ap (λ (b : Baseline). b.hashing) pass.base in
    let all = all-redone c.args.self.now c.requires.kept c.in_ok-pass.pass _ c.deref_mut.ensures.value did same _ _ (ap (λ (e : Ends). was_of e) pass.ends) (ap (λ (e : Ends). now_of e) pass.ends)
    c.args.traces.now in
    let most : length (redone_in c.in_ok-pass.pass 0 (0 + sum (lengths_of c.deref_mut.result.now)) c.args.traces.now) ≤ length (redone_by c.args.self.now c.args.patch.now c.args.traces.now) =
    omega (arith, ap length all) in
    steps-of c.from_residual-in_err-add_renewed.ensures.0 (steps-fail c.args.work.now c.go_over_chunks.new.work _ _ most c.go_over_chunks.ensures.steps)

pub returns-in_err-add_renewed-clause-looked : goal.returns-in_err-add_renewed-clause-looked
returns-in_err-add_renewed-clause-looked c =
    let pass = c.in_ok-pass.ensures in
    let did = ap (λ (b : Baseline). b.traces.now) pass.base ∙ c.deref-2.ensures.value in
    let same = ap (λ (b : Baseline). b.hashing) pass.base in
    let all = all-looks c.args.self.now c.requires.kept c.in_ok-pass.pass _ c.deref_mut.ensures.value did same _ _ (ap (λ (e : Ends). was_of e) pass.ends) (ap (λ (e : Ends). now_of e) pass.ends)
    c.args.traces.now in
    subst (λ (n : ℕ). ComparesUpTo c.args.work.now c.go_over_chunks.new.work n) all c.go_over_chunks.ensures.looked

pub returns-clause-kept : goal.returns-clause-kept
returns-clause-kept c =
    let h = c.requires in
    let did = ap (λ (b : Baseline). b.traces.now) c.in_ok-pass.ensures.base ∙ c.deref-2.ensures.value in
    let same = ap (λ (b : Baseline). b.hashing) c.in_ok-pass.ensures.base in
    let still = c.go_over_chunks.ensures.chunks in
    are-same h.kept refl refl refl refl (chunks-again c.args.self.now h.kept.chunks c.deref_mut.ensures.value did same still)
    (lengths-again c.args.self.now c.deref_mut.ensures.value still) c.add_renewed.ensures.still

pub returns-clause-made : goal.returns-clause-made
returns-clause-made c =
    let pass = c.in_ok-pass.ensures in
    let did = ap (λ (b : Baseline). b.traces.now) pass.base ∙ c.deref-2.ensures.value in
    let same = ap (λ (b : Baseline). b.hashing) pass.base in
    let all = all-redone c.args.self.now c.requires.kept c.in_ok-pass.pass _ c.deref_mut.ensures.value did same _ _ (ap (λ (e : Ends). was_of e) pass.ends) (ap (λ (e : Ends). now_of e) pass.ends)
    c.args.traces.now in
    ap (λ v. v.items) c.into_news-renewed.ensures ∙ c.in_ok-go_over_chunks.ensures.over.made ∙ (λ i. pass.news i ++ all i)

pub returns-clause-steps : goal.returns-clause-steps
returns-clause-steps c =
    let pass = c.in_ok-pass.ensures in
    let did = ap (λ (b : Baseline). b.traces.now) pass.base ∙ c.deref-2.ensures.value in
    let same = ap (λ (b : Baseline). b.hashing) pass.base in
    let all = all-redone c.args.self.now c.requires.kept c.in_ok-pass.pass _ c.deref_mut.ensures.value did same _ _ (ap (λ (e : Ends). was_of e) pass.ends) (ap (λ (e : Ends). now_of e) pass.ends)
    c.args.traces.now in
    steps-as (ap length all) c.in_ok-go_over_chunks.ensures.steps

pub returns-clause-looked : goal.returns-clause-looked
returns-clause-looked c =
    let pass = c.in_ok-pass.ensures in
    let did = ap (λ (b : Baseline). b.traces.now) pass.base ∙ c.deref-2.ensures.value in
    let same = ap (λ (b : Baseline). b.hashing) pass.base in
    let all = all-looks c.args.self.now c.requires.kept c.in_ok-pass.pass _ c.deref_mut.ensures.value did same _ _ (ap (λ (e : Ends). was_of e) pass.ends) (ap (λ (e : Ends). now_of e) pass.ends)
    c.args.traces.now in
    subst (λ (n : ℕ). ComparesUpTo c.args.work.now c.go_over_chunks.new.work n) all c.go_over_chunks.ensures.looked

pub returns-clause-read : goal.returns-clause-read
returns-clause-read c =
    subst (λ (news : List (SparseItem Outcome)). HasRead c.add_renewed.new.self (items_of news)) c.deref-3.ensures.value c.in_ok-add_renewed.ensures.read
