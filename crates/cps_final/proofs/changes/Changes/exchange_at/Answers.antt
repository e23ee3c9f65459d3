use Rattle.std.proofs.Common.{Some, sym, ap, ◌∙◌}
use Rattle.indexmap.proofs.CallerLemmas.{keys-with_value_at, index_map_len-with_value_at}
use Rattle.cps_state.specs.Code.OtherAnswers.{answer_of}
use Rattle.cps_final.specs.Changes.{with_change}
use Rattle.cps_final.specs.Code.Kept.{changes_in}
use Rattle.cps_final.proofs.KeptLemmas.{at-place, written-at, may-stand, answer-changed, stands-next, stands-always}
use Rattle.cps_final.proofs.changes.Changes.exchange_at.Goals as goal

pub replace-requires-clause-stands : goal.replace-requires-clause-stands
replace-requires-clause-stands c =
    let was = at-place c.args.self.now.answers c.args.i c.args.key _ c.in-Some.ensures.unique c.requires.there c.in-Some.ensures.value in
    may-stand (changes_in c.args.self.now) c.args.key c.take-answer.result c.requires.stands (was ∙ ap Some (sym c.take-answer.ensures.value))

pub returns-clause-changes : goal.returns-clause-changes
returns-clause-changes c =
    written-at c.args.self.now.answers c.args.i c.args.key _ c.replace.result c.in-Some.ensures.unique c.requires.there c.in-Some.ensures.value
    ∙ ap (with_change (changes_in c.args.self.now) c.args.key) c.replace.ensures.old

pub returns-clause-state : goal.returns-clause-state
returns-clause-state c =
    let was = at-place c.args.self.now.answers c.args.i c.args.key _ c.in-Some.ensures.unique c.requires.there c.in-Some.ensures.value in
    answer-changed (changes_in c.args.self.now) _ _ c.args.key c.take-answer.result (ap Some c.take-answer.ensures.value ∙ sym was) c.replace.ensures.answer

pub returns-clause-keys : goal.returns-clause-keys
returns-clause-keys c = record {
  keys = keys-with_value_at c.args.self.now.answers c.args.i c.replace.result;
  count = index_map_len-with_value_at c.args.self.now.answers c.args.i c.replace.result;
}

pub returns-clause-stands : goal.returns-clause-stands
returns-clause-stands c =
    let state = c.args.state.now in
    stands-next (changes_in c.args.self.now) _ c.args.key c.replace.result c.requires.stands
    (λ always none.
    stands-always state.control state.nominal state.uses state.blocks state.ranges state.locals (answer_of state.others) c.args.key always
    (sym c.replace.ensures.old ∙ none))
    (written-at c.args.self.now.answers c.args.i c.args.key _ c.replace.result c.in-Some.ensures.unique c.requires.there c.in-Some.ensures.value)
