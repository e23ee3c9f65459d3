use Rattle.std.proofs.Common.{◌≡◌, ◌+◌, true, List, [], ◌∷◌, refl, sym, subst, ap, ◌∙◌, arith}
use Rattle.std.specs.Prelude.{Option, IfSome, is_some, slice_get, Some}
use Rattle.std.proofs.lemmas.Option.{slice_get-get_or}
use Rattle.cps_final.specs.contracts.finals.FinalsGathered.TheImpl.{gathered-value}
use Rattle.cps_edit.specs.Assembly.{ends_open}
use Rattle.cps_state.specs.Course.{Trace}
use Rattle.cps_cause.specs.Opener.{IsOpener}
use Rattle.cps_cause.specs.declared.cause.Cause.{Cause}
use Rattle.cps_cause.specs.declared.letter.Letter.TheVariants.{E}
use Rattle.cps_cause.specs.declared.diagnostic.Diagnostic.{Diagnostic}
use Rattle.cps_expr.specs.declared.radix.Radix.TheVariants.{Decimal}
use Rattle.cps_cause.specs.declared.origin.Origin.TheVariants.{Line}
use Rattle.cps_cause.specs.Letters.{letter_of}
use Rattle.cps_check.specs.Reports.{IsOpenTold, ReportsEnd, flag_report}
use Rattle.cps_check.proofs.EndLemmas.{card-there, end-open}
use Rattle.cps_check.proofs.line_telling.LineTelling.tell_end.Goals as goal

pub bounds-cards-above : goal.bounds-cards-above
bounds-cards-above c =
    card-there c.args.cards.now c.args.traces.now c.in-Some-opener_of.above c.requires.traces c.in-Some-opener_of.ensures.opener.within

pub overflow_cast-told : goal.overflow_cast-told
overflow_cast-told c =
    let within = card-there c.args.cards.now c.args.traces.now c.in-Some-opener_of.above c.requires.traces c.in-Some-opener_of.ensures.opener.within in
    omega (arith, within, c.requires.few)

pub overflow_add-told : goal.overflow_add-told
overflow_add-told c =
    let within = card-there c.args.cards.now c.args.traces.now c.in-Some-opener_of.above c.requires.traces c.in-Some-opener_of.ensures.opener.within in
    omega (arith, within, c.requires.few)

pub returns : goal.returns
returns c =
    let cards = c.args.cards.now in
    let above = c.in-Some-opener_of.above in
    let columns = c.within-columns.result in
    let card = c.bytes-line.result.now in
    let told : Diagnostic = record { columns = columns; cause = c.in-Some.cause; within = columns; statement = c.empty.result; origin = Line; base = Decimal; times = 1 } in
    let report = flag_report (above + 1) card told in
    let within = card-there cards c.args.traces.now above c.requires.traces c.in-Some-opener_of.ensures.opener.within in
    let there : slice_get cards above ≡ Some card =
    slice_get-get_or cards above c.index-cards-above.result within
    ∙ ap Some (sym c.index-cards-above.is ∙ sym c.bytes-line.ensures.value) in
    let ends : true ≡ ends_open cards =
    end-open cards c.args.traces.now (gathered-value.it c.args.self.now.finals.now) true c.requires.traces c.requires.finals
    (sym (ap is_some c.in-Some.is) ∙ c.in_ok-cause.ensures.open) in
    let letter : letter_of c.in-Some.cause ≡ E =
    subst (λ (cause : Option Cause). IfSome cause (λ found. letter_of found ≡ E)) c.in-Some.is c.in_ok-cause.ensures.letter in
    let open_told : IsOpenTold cards report = record {
      above = above;
      card = card;
      told = told;
      opener = subst (λ (traces : List Trace). IsOpener traces above) c.requires.traces c.in-Some-opener_of.ensures.opener;
      there = there;
      columns = record { some = c.within-columns.ensures.some; order = c.within-columns.ensures.order; within = c.within-columns.ensures.within };
      letter = letter;
      all = refl;
    } in
    record {
      reports = report ∷ [];
      told = subst (λ b. ReportsEnd b cards (report ∷ [])) ends (report, refl, open_told);
      asked = λ _. refl;
      wrong = refl;
      added = c.in_ok-push_flag.ensures;
    }
