use Rattle.std.proofs.Common.{List, [], ◌∷◌, ◌++◌, ap, subst, sym, ◌∙◌}
use Rattle.cps_state.specs.declared.item.Item.{Item}
use Rattle.cps_state.specs.Course.{Trace}
use Rattle.cps_state.specs.Code.Scratch.{Scratch, statements_on}
use Rattle.cps_final.specs.LineNames.{names_defined, names_read}
use Rattle.cps_list.specs.Code.Making.{shown, shows_symbols}
use Rattle.cps_list.specs.Symbols.{mentions_on}
use Rattle.cps_edit.specs.Assembly.{traces_of}
use Rattle.cps_batch.specs.Code.Passes.{AreBegun, IsAnyKept, statements_of}
use Rattle.cps_batch.proofs.PassLemmas.{begun-kept, gathered-next, kept-more, noted-more}
use Rattle.cps_batch.proofs.passes.BatchPassOne.take_line.Goals as goal

pub keep-requires : goal.keep-requires
keep-requires c =
    let (lines, so) = c.requires in
    let next = c.in_ok-step_next.ensures lines so.gathered in
    let before = ap (λ (s : Scratch). s.before) c.in_ok-take.ensures.scratch ∙ next.stands.before in
    subst (λ (front : List Item). AreBegun c.args.self.now.kept front) (sym before) (begun-kept c.args.self.now.kept _ _ so.kept)

pub returns-clause-passed : goal.returns-clause-passed
returns-clause-passed c = λ lines so at.
    let line = c.args.line.now in
    let old = c.args.self.now in
    let scratch = c.step_next.new.scratch in
    let next = c.in_ok-step_next.ensures lines so.gathered in
    let taken = c.in_ok-take.ensures in
    let noted = c.in_ok-note_symbols.ensures
    ∙ ap (λ is_shown. old.mentions.items ++ shown is_shown (mentions_on c.args.number (names_defined scratch.line) (names_read scratch.line))) c.shows_symbols.ensures
    ∙ ap (λ (t : Trace). old.mentions.items ++ shown (shows_symbols old.part) (mentions_on c.args.number (names_defined t) (names_read t))) next.stands.line in
    let before = ap (λ (s : Scratch). s.before) taken.scratch ∙ next.stands.before in
    let items = ap (λ (s : Scratch). s.line.items) taken.scratch ∙ ap (λ (t : Trace). t.items) next.stands.line in
    let kept = subst (λ (front : List Item). IsAnyKept old.kept front (statements_of (traces_of lines))) (sym before) so.kept in
    let statements = ap (λ (own : List Item). statements_of (traces_of lines) ++ own ∷ []) items ∙ kept-more lines line next.trace next.traces in
    record {
      gathered = gathered-next _ lines line _ _ next (taken.ok (traces_of lines) so.gathered);
      kept = subst (λ (own : List (List Item)). IsAnyKept c.keep.new.kept (statements_on c.keep.new.scratch) own) statements
          (c.in_ok-keep.ensures (statements_of (traces_of lines)) kept);
      mentions = noted-more (shows_symbols old.part) old.mentions.items c.note_symbols.new.mentions.items lines line c.args.number next.trace at next.traces so.mentions noted;
    }
