-- The steps of an edit that a session answered, with a line that is the text of a command.
use Rattle.std.proofs.Common.{◌≡◌, ℕ, subst, ◌∙◌, List, Err}
use Rattle.cps_state.specs.Work.{Counts, no_work}
use Rattle.cps_edit.specs.Splice.{Splice}
use Rattle.cps_edit.specs.Disturbed.{ones_of, twos_of}
use Rattle.cps_live.specs.declared.session.EditFault.{EditFault}
use Rattle.cps_live.specs.declared.session.EditFault.TheVariants as faults
use Rattle.cps_live.specs.Edits.{HaveStepped, HaveSteppedUpTo, WorkOfEdit}
use Rattle.cps_tool.specs.Reply.{refusal_of}
use Rattle.cps_tool.specs.EditReplies.{StepsOf, StepsOfRefused}

pub accepted_steps : (source : List (List ℕ)) (edit : List ℕ → Splice) (line text : List ℕ) (old new : Counts) → line ≡ text → old ≡ no_work
    → HaveStepped (ones_of source (edit line)) (twos_of source (edit line)) old new → StepsOf source (edit text) new
accepted_steps source edit line text old new is none steps =
    subst (λ t. StepsOf source (edit t) new) is (subst (λ (work : Counts). HaveStepped (ones_of source (edit line)) (twos_of source (edit line)) work new) none steps)

pub refused_steps : (fault : EditFault) (source : List (List ℕ)) (edit : List ℕ → Splice) (line text : List ℕ) (old new : Counts) → line ≡ text → old ≡ no_work
    → WorkOfEdit {T = Unit {0}} (Err fault) source (edit line) old new → StepsOfRefused (refusal_of fault) source (edit text) new
refused_steps faults.NoSuchLine source edit line text old new is none steps = steps ∙ none
refused_steps faults.TooManyLines source edit line text old new is none steps = steps ∙ none
refused_steps faults.Memory source edit line text old new is none steps =
    subst (λ t. HaveSteppedUpTo (ones_of source (edit t)) (twos_of source (edit t)) no_work new) is
    (subst (λ (work : Counts). HaveSteppedUpTo (ones_of source (edit line)) (twos_of source (edit line)) work new) none steps)
