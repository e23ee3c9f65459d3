use Rattle.std.proofs.Common.{arith, ◌<◌, ◌∷◌, ◌++◌, [], length, subst, sym}
use Rattle.std.proofs.lemmas.List.{length-append}
use Rattle.cps_edit.specs.Disturbed.{ones_of, twos_of}
use Rattle.cps_edit.specs.Splice.{insertion}
use Rattle.cps_edit.specs.Limits.{most_lines}
use Rattle.cps_live.specs.Edits.{Source, HaveStepped, HaveSteppedUpTo, LooksOfAppend}
use Rattle.cps_live.proofs.SessionLemmas.{held}
use Rattle.cps_live.proofs.session.Session.append.Goals as goal

pub invariant_of-self : goal.invariant_of-self
invariant_of-self c = held c.append-made.new.self c.self.inside.kept.lines.items c.append-made.ensures.kept c.in_default.ensures.err.lines c.self.invariant.few

pub returns-in_default-clause-work : goal.returns-in_default-clause-work
returns-in_default-clause-work c =
    let line = c.args.line in
    let steps = c.in_default.ensures.steps in
    subst (λ (s : Source). HaveSteppedUpTo (ones_of s.lines (insertion (length s.lines) line)) (twos_of s.lines (insertion (length s.lines) line)) c.args.work.now c.append-made.new.work) c.self.view_is
    (record { first = steps.ones_most; second = steps.twos_most; first_kept = steps.ones_least; second_kept = steps.twos_least })

pub returns-in_default-clause-looked : goal.returns-in_default-clause-looked
returns-in_default-clause-looked c = subst (λ (s : Source). LooksOfAppend s c.args.line c.args.work.now c.append-made.new.work) c.self.view_is c.append-made.ensures.looked

pub invariant_of-self-2 : goal.invariant_of-self-2
invariant_of-self-2 c =
    let lines = c.self.inside.kept.lines.items in
    let few = subst (λ (s : Source). length s.lines < most_lines) (sym c.self.view_is) c.requires in
    held c.append-made.new.self (lines ++ c.args.line ∷ []) c.append-made.ensures.kept c.in-Ok.ensures.ok.lines (omega (arith, length-append lines (c.args.line ∷ []), few))

pub returns-clause-work : goal.returns-clause-work
returns-clause-work c =
    let line = c.args.line in
    let steps = c.in-Ok.ensures.steps in
    subst (λ (s : Source). HaveStepped (ones_of s.lines (insertion (length s.lines) line)) (twos_of s.lines (insertion (length s.lines) line)) c.args.work.now c.append-made.new.work) c.self.view_is
    (record { first = steps.ones; second = steps.twos })

pub returns-clause-looked : goal.returns-clause-looked
returns-clause-looked c = subst (λ (s : Source). LooksOfAppend s c.args.line c.args.work.now c.append-made.new.work) c.self.view_is c.append-made.ensures.looked
