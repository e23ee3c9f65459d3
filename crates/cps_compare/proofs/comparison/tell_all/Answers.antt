use Rattle.std.proofs.Common.{◌≡◌, [], ◌++◌, cond, flat_map, subst, sym, ap, ◌∙◌}
use Rattle.cps_claims.specs.Reading.{unread_from}
use Rattle.cps_compare.specs.Runs.{compared, differing_rows, run_rows, runs_of}
use Rattle.cps_compare.specs.Summary.{each_unread, summary}
use Rattle.cps_compare.specs.Code.Runs.{AreCompared}
use Rattle.cps_compare.proofs.comparison.tell_all.Goals as goal

pub returns : goal.returns
returns g c = λ found kept.
    let assembly = g.V.View.assembly c.args.view.now in
    let all = c.args.all in
    let low = c.args.span.low in
    let high = c.args.span.high in
    let survey = c.in_ok-survey.ensures.survey assembly found kept in
    let among = compared found low high in
    let drift = c.in_ok-drift.drift.items in
    let read = c.rows-rows.ensures assembly found kept in
    let runs : c.tell_runs.new.telling.text.items ≡ differing_rows found all low high =
    c.in_ok-tell_runs.ensures found among kept (subst (AreCompared found among) (sym c.deref.ensures.value) survey.listed)
    ∙ ap (λ l. l ++ flat_map (run_rows found all) (runs_of found among)) c.new-telling.ensures in
    let unread = cond all (each_unread (unread_from 1 found.rows)) [] in
    let moved : c.extend_from_slice.new.self.items ≡ differing_rows found all low high ++ drift =
    c.in_ok-extend_from_slice.ensures.items ∙ (λ i. runs i ++ c.deref-2.ensures.value i) in
    let rows : c.push_unread_rows.new.text.items ≡ (differing_rows found all low high ++ drift) ++ unread =
    c.in_ok-push_unread_rows.ensures
    ∙ (λ i. moved i ++ cond all (each_unread ((c.deref-3.ensures.value ∙ read.unread_rows) i)) []) in
    let last : c.push_summary.new.text.items ≡ c.push_unread_rows.new.text.items ++ summary found low high =
    c.in_ok-push_summary.ensures found read survey.counted in
    record {
      drift = drift;
      is_drift = c.in_ok-drift.ensures;
      text = last ∙ ap (λ l. l ++ summary found low high) rows;
      count = survey.counted.differing.count;
    }
