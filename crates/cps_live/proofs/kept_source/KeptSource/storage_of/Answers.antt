use Rattle.std.proofs.Common.{◌≡◌, List, length, refl, ap, subst, sym, ◌∙◌}
use Rattle.cps_state.specs.Course.{Trace}
use Rattle.cps_state.specs.Keys.{first_state}
use Rattle.cps_final.specs.Finals.{Finals}
use Rattle.cps_final.specs.Code.Storage.{IsStored}
use Rattle.cps_edit.specs.Passes.{traces_of}
use Rattle.cps_edit.specs.Splice.{spliced}
use Rattle.cps_live.specs.Code.Editing.{splice_of}
use Rattle.cps_live.specs.Code.Storing.{IsStoredBehind}
use Rattle.cps_live.proofs.AgainLemmas.{chunks-again, lengths-again}
use Rattle.cps_live.proofs.KeptLemmas.{are-same, trace-places, traces-long}
use Rattle.cps_live.proofs.PatchedLemmas.{edited-is}
use Rattle.cps_live.proofs.StoreLemmas.{if_ok}
use Rattle.cps_live.proofs.kept_source.KeptSource.storage_of.Goals as goal

pub storage_behind-requires-clause-stored : goal.storage_behind-requires-clause-stored
storage_behind-requires-clause-stored c =
    let kept = c.requires.kept in
    let there = ap (λ (finals : Finals). record finals { state = first_state }) kept.finals in
    let stored = ap (λ (finals : Finals). record finals { state = first_state }) c.storage.ensures in
    subst (IsStored c.storage.result.now) (sym (c.deref-2.ensures.value ∙ kept.lines.did)) (stored ∙ there)

pub storage_behind-requires-clause-places : goal.storage_behind-requires-clause-places
storage_behind-requires-clause-places c =
    let kept = c.requires.kept.lines in
    trace-places kept c.requires.cut _ c.requires.traces refl (ap length c.deref-2.ensures.value ∙ traces-long kept c.requires.cut)

pub returns-clause-kept : goal.returns-clause-kept
returns-clause-kept c =
    let kept = c.requires.kept.lines in
    let still = c.storage_behind.ensures.chunks in
    record {
      lines = are-same kept refl refl refl refl (chunks-again c.args.self.now kept.chunks c.deref_mut.ensures.value c.deref-2.ensures.value refl still)
          (lengths-again c.args.self.now c.deref_mut.ensures.value still) (λ name here. here);
      finals = c.requires.kept.finals;
    }

pub returns-clause-storage : goal.returns-clause-storage
returns-clause-storage c =
    let lines = c.args.self.now.lines.items in
    let cut = c.args.cut.now in
    let olds = c.deref-2.result.now in
    let did : olds ≡ traces_of lines = c.deref-2.ensures.value ∙ c.requires.kept.lines.did in
    if_ok c.storage_behind.result
    (λ next stored. subst (λ (ts : List Trace). IsStoredBehind ts next (traces_of (spliced lines (splice_of cut)))) did
    (subst (λ (ts : List Trace). IsStoredBehind olds next ts) (edited-is lines cut c.args.traces.now c.requires.traces olds did) stored))
    c.storage_behind.ensures.stored
