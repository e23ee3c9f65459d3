use Rattle.std.proofs.Common.{◌≤◌, List, length, sym, ap, subst, ◌∙◌}
use Rattle.std.specs.Prelude.{slice_get}
use Rattle.cps_final.specs.Outcome.{Outcome}
use Rattle.cps_edit.specs.Assembly.{outcomes_of}
use Rattle.cps_chunk.specs.Recut.{recut as recut_by}
use Rattle.cps_edit.specs.Splice.{spliced}
use Rattle.cps_edit.specs.Disturbed.{ones_of, twos_of}
use Rattle.cps_live.specs.Code.Editing.{splice_of}
use Rattle.cps_edit.specs.Limits.{most_lines}
use Rattle.cps_live.specs.Edits.{Source, HaveStepped, HaveSteppedUpTo, LooksOfEdit, place_before}
use Rattle.cps_live.proofs.SessionLemmas.{held}
use Rattle.cps_live.proofs.session.Session.splice.Goals as goal

pub invariant_of-self : goal.invariant_of-self
invariant_of-self c = held c.splice-made.new.self c.self.inside.kept.lines.items c.splice-made.ensures.kept c.in_default.ensures.err.lines c.self.invariant.few

pub returns-in_default-clause-work : goal.returns-in_default-clause-work
returns-in_default-clause-work c =
    let splice = splice_of c.args.cut in
    let steps = c.in_default.ensures.steps in
    subst (λ (s : Source). HaveSteppedUpTo (ones_of s.lines splice) (twos_of s.lines splice) c.args.work.now c.splice-made.new.work) c.self.view_is
    (record { first = steps.ones_most; second = steps.twos_most; first_kept = steps.ones_least; second_kept = steps.twos_least })

pub returns-in_default-clause-looked : goal.returns-in_default-clause-looked
returns-in_default-clause-looked c =
    let cut = c.args.cut in
    subst (λ (s : Source). LooksOfEdit s (splice_of cut) (recut_by cut.start cut.end cut.lengths.items s.lengths) c.args.work.now c.splice-made.new.work) c.self.view_is c.splice-made.ensures.looked

pub invariant_of-self-2 : goal.invariant_of-self-2
invariant_of-self-2 c =
    let lines = c.self.inside.kept.lines.items in
    let splice = splice_of c.args.cut in
    let few = subst (λ (s : Source). length (spliced s.lines splice) ≤ most_lines) (sym c.self.view_is) c.requires.few in
    held c.splice-made.new.self (spliced lines splice) c.splice-made.ensures.kept c.in-Ok.ensures.ok.lines few

pub returns-clause-work : goal.returns-clause-work
returns-clause-work c =
    let splice = splice_of c.args.cut in
    let steps = c.in-Ok.ensures.steps in
    subst (λ (s : Source). HaveStepped (ones_of s.lines splice) (twos_of s.lines splice) c.args.work.now c.splice-made.new.work) c.self.view_is
    (record { first = steps.ones; second = steps.twos })

pub returns-clause-looked : goal.returns-clause-looked
returns-clause-looked c =
    let cut = c.args.cut in
    subst (λ (s : Source). LooksOfEdit s (splice_of cut) (recut_by cut.start cut.end cut.lengths.items s.lengths) c.args.work.now c.splice-made.new.work) c.self.view_is c.splice-made.ensures.looked

pub returns-clause-redone : goal.returns-clause-redone
returns-clause-redone c = λ at is none.
    let cut = c.args.cut in
    let splice = splice_of cut in
    let was = c.self.invariant.kept.lines.made ∙ ap (λ (s : Source). outcomes_of s.lines) c.self.view_is in
    let now = c.splice-made.ensures.kept.lines.made in
    ap (λ (os : List Outcome). slice_get os at) (sym now) ∙ c.in-Ok.ensures.redone at is none
    ∙ ap (λ (os : List Outcome). slice_get os (place_before splice.keep splice.from (length splice.new) at)) was
