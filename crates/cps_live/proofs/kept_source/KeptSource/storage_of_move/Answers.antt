use Rattle.std.proofs.Common.{arith, ◌≡◌, length, refl, ap, sym, subst, ◌∙◌}
use Rattle.cps_state.specs.Keys.{first_state}
use Rattle.cps_edit.specs.Passes.{traces_of}
use Rattle.cps_edit.proofs.SpliceLemmas.{length-traces_from}
use Rattle.cps_live.proofs.AgainLemmas.{chunks-again, lengths-again}
use Rattle.cps_live.proofs.ExchangeLemmas.{lines-long, lines-within, news-behind, stored-moved}
use Rattle.cps_live.proofs.KeptLemmas.{are-same}
use Rattle.cps_live.proofs.StoreLemmas.{if_ok}
use Rattle.cps_live.proofs.kept_source.KeptSource.storage_of_move.Goals as goal

pub storage_moved-requires-clause-runs : goal.storage_moved-requires-clause-runs
storage_moved-requires-clause-runs c =
    let within = lines-within c.args.self.now c.args.exchange c.requires.runs in
    let long : length c.deref-2.result.now ≡ length c.args.self.now.lines.items = ap length c.deref-2.ensures.value ∙ lines-long c.requires.kept.lines in
    record { first = c.requires.runs.first; second = c.requires.runs.second; within = omega (arith, long, within.all) }

pub storage_moved-requires-clause-places : goal.storage_moved-requires-clause-places
storage_moved-requires-clause-places c =
    let within = lines-within c.args.self.now c.args.exchange c.requires.runs in
    let long : length c.deref-2.result.now ≡ length c.args.self.now.lines.items = ap length c.deref-2.ensures.value ∙ lines-long c.requires.kept.lines in
    news-behind c.args.self.now.lines.items c.args.exchange within c.args.traces.now c.requires.traces (length c.deref-2.result.now) long

pub returns-clause-kept : goal.returns-clause-kept
returns-clause-kept c =
    let kept = c.requires.kept.lines in
    let still = c.storage_moved.ensures.chunks in
    record {
      lines = are-same kept refl refl refl refl (chunks-again c.args.self.now kept.chunks c.deref_mut.ensures.value c.deref-2.ensures.value refl still)
          (lengths-again c.args.self.now c.deref_mut.ensures.value still) (λ name here. here);
      finals = c.requires.kept.finals;
    }

pub returns-clause-storage : goal.returns-clause-storage
returns-clause-storage c =
    let lines = c.args.self.now.lines.items in
    let within = lines-within c.args.self.now c.args.exchange c.requires.runs in
    let olds = c.deref-2.result.now in
    let did : olds ≡ traces_of lines = c.deref-2.ensures.value ∙ c.requires.kept.lines.did in
    if_ok c.storage_moved.result (λ next stored. stored-moved lines c.args.exchange within next olds c.args.traces.now did c.requires.traces stored) c.storage_moved.ensures.stored
