-- An instruction with two holes.
use Rattle.std.proofs.Common.{◌≡◌, ℕ, Bool, true, false, List, [], ◌∷◌, refl, sym, ap, ◌∙◌}
use Rattle.std.specs.Prelude.{ℤ, ◌||◌, map}
use Rattle.std.specs.List.{list_any}
use Rattle.cps_code.specs.declared.filled.Filled.{Filled}
use Rattle.cps_code.specs.declared.hole.Hole.{Hole}
use Rattle.cps_code.specs.Form.{Form, filled}
use Rattle.cps_state.specs.declared.flags.Flags.{Flags}
use Rattle.cps_state.specs.Flags.{joined}
use Rattle.cps_state.specs.Made.{no_flags}
use Rattle.cps_final.specs.Values.{Known, operand_number, is_valueless, reads_undefined, number_for, numbers_of, operand_flags, form_number, form_flags}

or_false : (b : Bool) → b ≡ (b || false)
or_false true = refl
or_false false = refl

any-two : (p : Hole → Bool) (holes : List Hole) (hole other : Hole) → holes ≡ hole ∷ other ∷ [] → (p hole || p other) ≡ list_any p holes
any-two p holes hole other is = ap (λ b. p hole || b) (or_false (p other)) ∙ ap (list_any p) (sym is)

numbers-two : (known : Known) (here : ℕ) (form : Form) (hole other : Hole) (number next : ℤ) → form.holes ≡ hole ∷ other ∷ []
    → number ≡ number_for hole.kind here (operand_number known here hole.operand) → next ≡ number_for other.kind here (operand_number known here other.operand)
    → number ∷ next ∷ [] ≡ numbers_of known here form
numbers-two known here form hole other number next is first second =
    (λ i. first i ∷ second i ∷ [])
    ∙ sym (ap (map (λ (h : Hole). number_for h.kind here (operand_number known here h.operand))) is)

pub number-two : (known : Known) (here : ℕ) (form : Form) (hole other : Hole) (number next : ℤ) (full : Filled) (digits : ℕ) → form.holes ≡ hole ∷ other ∷ []
    → number ≡ number_for hole.kind here (operand_number known here hole.operand) → next ≡ number_for other.kind here (operand_number known here other.operand)
    → full ≡ filled form (number ∷ next ∷ []) → digits ≡ full.digits → digits ≡ form_number known here form
number-two known here form hole other number next full digits is first second fills made =
    made ∙ ap (λ (f : Filled). f.digits) (fills ∙ ap (filled form) (numbers-two known here form hole other number next is first second))

pub flags-two : (known : Known) (here : ℕ) (form : Form) (hole other : Hole) (number next : ℤ) (full : Filled) (value more all flags : Flags)
    → form.holes ≡ hole ∷ other ∷ []
    → number ≡ number_for hole.kind here (operand_number known here hole.operand) → next ≡ number_for other.kind here (operand_number known here other.operand)
    → full ≡ filled form (number ∷ next ∷ [])
    → value ≡ operand_flags known here hole.operand → more ≡ operand_flags known here other.operand → all ≡ joined value more
    → flags ≡ record all { operand = (all.operand || full.is_out_of_range); cut = full.is_truncated }
    → flags ≡ form_flags known here form
flags-two known here form hole other number next full value more all flags is first second fills given also joins made =
    let both : all ≡ joined (operand_flags known here hole.operand) (operand_flags known here other.operand) = joins ∙ (λ i. joined (given i) (also i)) in
    let whole : full ≡ filled form (numbers_of known here form) = fills ∙ ap (filled form) (numbers-two known here form hole other number next is first second) in
    let nones = any-two (λ h. is_valueless known here h.operand) form.holes hole other is in
    let undefined = any-two (λ h. reads_undefined known h.operand) form.holes hole other is in
    made ∙ (λ i. record (both i) { operand = ((both i).operand || (whole i).is_out_of_range); cut = (whole i).is_truncated })
    ∙ (λ i. record no_flags { operand = (nones i || (filled form (numbers_of known here form)).is_out_of_range); cut = (filled form (numbers_of known here form)).is_truncated; undefined = undefined i })
