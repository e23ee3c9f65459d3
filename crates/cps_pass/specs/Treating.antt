-- What is done with a line that is not assembled: it is skipped or kept. From the manual's descriptions of IF, DUP and macros.
use Rattle.std.specs.Prelude.{ℕ, zero, suc, Bool, true, false, List, [], ◌∷◌, ◌++◌, Option, None, Some, if◌then◌else◌}
use Rattle.cps_text.specs.declared.name.Name.{Name}
use Rattle.cps_state.specs.declared.key.Answer.TheVariants as answer
use Rattle.cps_state.specs.declared.key.Control.{Control}
use Rattle.cps_state.specs.declared.key.Key.TheVariants as key
use Rattle.cps_state.specs.declared.key.MacroBody.{MacroBody}
use Rattle.cps_state.specs.declared.key.Mode.{Mode}
use Rattle.cps_state.specs.declared.key.Mode.TheVariants.{Normal}
use Rattle.cps_state.specs.declared.key.OpenRange.TheVariants.{BehindElse}
use Rattle.cps_state.specs.contracts.key.ModePartialEq.TheImpl.{eq-value}
use Rattle.cps_state.specs.Course.{Part, ◌before◌, putting}
use Rattle.cps_pass.specs.Located.{present_flags}
use Rattle.cps_pass.specs.Making.{flagged}
use Rattle.cps_pass.specs.declared.scope.Scope.{Scope}
use Rattle.cps_pass.specs.declared.treatment.Treatment.{Treatment}
use Rattle.cps_pass.specs.declared.treatment.Treatment.TheVariants.{Passes, Resumes, Defines, Opens}
use Rattle.cps_pass.specs.Locals.{macro_of_lines}
use Rattle.cps_pass.specs.Opening.{plain}
use Rattle.cps_pass.specs.Scope.{going_by, asking_ranges, putting_ranges, keeping, taking_body, flagging, Behind, opens_nothing}

-- what is done with lines is put only where it changes
abbrev pub changing : Control → Scope → Mode → Mode → (Scope → Part) → Part
changing control scope mode later next = if eq-value.it later mode then next scope else going_by control scope later next

-- at which number a line is kept, if it is
abbrev pub keeping_at : Option ℕ → Scope → List ℕ → (Scope → Part) → Part
keeping_at None scope text next = next scope
keeping_at (Some count) scope text next = keeping scope count text next

abbrev pub passing : Control → Scope → Mode → List ℕ → Mode → Option ℕ → (Scope → Part) → Part
passing control scope mode text later kept_at next = keeping_at kept_at scope text (λ there. changing control there mode later next)

-- assembly is taken up after the ELSE of a range
abbrev pub resuming : Control → Scope → (Scope → Part) → Part
resuming control scope next =
    asking_ranges scope (λ ranges. putting_ranges scope (BehindElse ∷ ranges) (λ there. going_by control there Normal next))

-- the lines of a body are the macro's from now on
abbrev pub defining_macro : Control → Scope → Name → MacroBody → (Scope → Part) → Part
defining_macro control scope name body next =
    taking_body control scope body.kept.lines (λ lines later.
    putting (key.Macro name) (answer.Macro (macro_of_lines body.parameters lines)) before next later)

-- lines so many times
abbrev pub repeated : ℕ → List (List ℕ) → List (List ℕ)
repeated zero lines = []
repeated (suc times) lines = lines ++ repeated times lines

abbrev pub last_line : Bool → List ℕ → List (List ℕ)
last_line true text = text ∷ []
last_line false text = []

-- a line, in its mode and with its text
abbrev pub treated : Control → Scope → Mode → List ℕ → Treatment → Behind → Part
treated control scope mode text (Passes later kept_at flags) behind =
    passing control scope mode text later kept_at (λ there. flagging flags there (opens_nothing behind))
treated control scope mode text (Resumes location) behind = resuming control scope (λ there. flagging (present_flags location) there (opens_nothing behind))
treated control scope mode text (Defines name body location) behind =
    defining_macro control scope name body (λ there. flagging (present_flags location) there (opens_nothing behind))
treated control scope mode text (Opens body with_line flags) behind =
    taking_body control scope body.kept.lines (λ lines there. flagged flags before behind there (plain (repeated body.times (lines ++ last_line with_line text))))
