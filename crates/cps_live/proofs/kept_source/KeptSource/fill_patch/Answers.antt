use Rattle.std.proofs.Common.{◌∙◌, ap, refl, subst, sym}
use Rattle.cps_state.specs.Keys.{first_state, overwritten}
use Rattle.cps_final.specs.Changes.{Changed, changed}
use Rattle.cps_final.specs.Finals.{Finals}
use Rattle.cps_final.specs.Code.Storage.{IsStored}
use Rattle.cps_live.proofs.KeptLemmas.{kept-same}
use Rattle.cps_live.proofs.kept_source.KeptSource.fill_patch.Goals as goal

pub returns-in_err-put_all-clause-kept : goal.returns-in_err-put_all-clause-kept
returns-in_err-put_all-clause-kept c = kept-same c.requires.kept refl refl refl refl refl refl refl refl

pub returns-clause-kept : goal.returns-clause-kept
returns-clause-kept c = kept-same c.requires.kept refl refl refl refl refl refl refl refl

pub returns-clause-patch : goal.returns-clause-patch
returns-clause-patch c =
    let kept = c.requires.kept in
    let traces = c.args.self.now.traces.items in
    let puts = c.args.trace.now.puts in
    let there = ap (λ (finals : Finals). record finals { state = first_state }) (c.storage.ensures ∙ kept.finals) in
    let stored = subst (IsStored c.storage.result.now) (sym kept.lines.did) there in
    record {
      state = λ state. c.in_ok-put_all.ensures state ∙ ap (λ (now : Changed). overwritten (changed now state) c.puts.result.now) c.clear.ensures.changes ∙ ap (overwritten state) c.puts.ensures;
      storage = c.in_ok-patch.ensures traces stored;
    }
