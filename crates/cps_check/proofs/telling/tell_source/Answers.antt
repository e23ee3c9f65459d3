use Rattle.std.proofs.Common.{ℕ, ◌≤◌, List, length, sym, ap, subst, ◌∙◌}
use Rattle.std.proofs.lemmas.List.{length-map}
use Rattle.std.specs.Borrow.{Bor}
use Rattle.cps_final.specs.Finals.{finals_of}
use Rattle.cps_edit.specs.Assembly.{traces_of}
use Rattle.cps_final.specs.contracts.finals.FinalsGathered.TheImpl.{gathered-value}
use Rattle.cps_text.specs.declared.limits.TheConstants.{MOST_LINES}
use Rattle.cps_check.proofs.EndLemmas.{few-cards}
use Rattle.cps_check.proofs.SourceLemmas.{texts_of}
use Rattle.cps_check.proofs.WholeLemmas.{whole}
use Rattle.cps_check.specs.Code.Adding.{AddsEnd}
use Rattle.cps_check.proofs.telling.tell_source.Goals as goal

pub tell_lines-requires-clause-cards : goal.tell_lines-requires-clause-cards
tell_lines-requires-clause-cards c = c.deref-2.ensures.value ∙ c.in_ok-cards.ensures

pub tell_lines-requires-clause-traces : goal.tell_lines-requires-clause-traces
tell_lines-requires-clause-traces c =
    c.traces.ensures ∙ c.in_ok-one.ensures.one ∙ ap traces_of (c.deref.ensures.value ∙ sym c.deref-2.ensures.value)

pub tell_end-requires-clause-few : goal.tell_end-requires-clause-few
tell_end-requires-clause-few c = subst (λ (cards : List (List ℕ)). length cards ≤ MOST_LINES) (sym (c.deref-3.ensures.value ∙ c.in_ok-cards.ensures)) (few-cards (texts_of c.args.lines.now))

pub tell_end-requires-clause-traces : goal.tell_end-requires-clause-traces
tell_end-requires-clause-traces c =
    c.traces-2.ensures ∙ c.in_ok-one.ensures.one ∙ ap traces_of (c.deref.ensures.value ∙ sym c.deref-3.ensures.value)

pub tell_end-requires-clause-finals : goal.tell_end-requires-clause-finals
tell_end-requires-clause-finals c = c.finals.ensures ∙ ap finals_of (sym c.traces-2.ensures)

pub returns : goal.returns
returns c =
    whole c.args.options.errors_only c.args.options.name.now (texts_of c.args.lines.now) c.in_ok-cards.cards.items c.traces.result.now (gathered-value.it c.finals.result.now) (length c.args.lines.now)
    c.in_ok-is_wrong_within.is_wrong_within c.in_ok-is_open.is_open
    c.new-text.result.items c.tell_lines.new.text.items c.push_excess.new.text.items c.tell_end.new.text.items
    c.in_ok-cards.ensures
    (c.traces.ensures ∙ c.in_ok-one.ensures.one ∙ ap traces_of c.deref.ensures.value)
    (c.finals.ensures ∙ ap finals_of (sym c.traces.ensures))
    (sym (length-map c.args.lines.now (λ (line : Bor (List ℕ)). line.now)))
    c.new-text.ensures.items
    c.in_ok-is_wrong_within.ensures c.in_ok-push_excess.ensures
    (subst (λ (cards : List (List ℕ)). AddsEnd c.args.options.errors_only c.args.options.name.now cards c.in_ok-is_open.is_open c.push_excess.new.text.items c.tell_end.new.text.items) c.deref-3.ensures.value c.in_ok-is_open.ensures)
