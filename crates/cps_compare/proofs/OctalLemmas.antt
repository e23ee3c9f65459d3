-- What is told of an octal text and the lines of a source.
use Rattle.std.proofs.Common.{◌≡◌, ℕ, List, subst}
use Rattle.std.specs.Prelude.{Option, Some, Result, Ok, Err, IfSome}
use Rattle.std.specs.declared.vec.Vec.{Vec}
use Rattle.cps_text.specs.declared.counted.Counted.{Counted}
use Rattle.cps_input.specs.Sources.{IsSource}
use Rattle.cps_edit.specs.Assembly.{assembly_of}
use Rattle.cps_compare.specs.declared.compare_options.CompareOptions.{CompareOptions}
use Rattle.cps_compare.specs.declared.comparison.Comparison.{Comparison}
use Rattle.cps_compare.specs.Comparison.{Tells, findings_in}
use Rattle.cps_compare.specs.declared.octal_fault.OctalFault.{OctalFault}
use Rattle.cps_compare.specs.declared.octal_fault.OctalFault.TheVariants as faults
use Rattle.cps_compare.specs.Octal.{found_with, WritesTold, Reports}

-- the text that was kept
pub kept-text : {Z : Type 0} (found : Option (Vec ℕ Z)) (text : Vec ℕ Z) (bytes : List ℕ) → found ≡ Some text → IfSome found (λ text. text.items ≡ bytes)
    → text.items ≡ bytes
kept-text found text bytes is kept = subst (λ f. IfSome f (λ text. text.items ≡ bytes)) is kept

-- the same bytes and lines
pub found-same : (options : CompareOptions) (octal bytes : List ℕ) (source lines : List (List ℕ)) → octal ≡ bytes → source ≡ lines
    → findings_in options octal (assembly_of source) ≡ found_with options bytes lines
found-same options octal bytes source lines same_bytes same_lines = λ i. findings_in options (same_bytes i) (assembly_of (same_lines i))

-- what is told is written, or a front of it
pub reports : {W : Type 0} (contents : W → Option (List ℕ)) (options : CompareOptions) (result : Result ℕ OctalFault) (bytes : List ℕ) (lines : List (List ℕ))
    (told : Comparison) (old new : Counted W) → IsSource lines → Tells options (found_with options bytes lines) told → WritesTold contents result told old new
    → Reports contents options result bytes lines old new
reports contents options (Ok count) bytes lines told old new source tells written = (source, (told, tells, written))
reports contents options (Err faults.WriteFault) bytes lines told old new source tells written = (source, (told, tells, written))
reports contents options (Err faults.ReadFault) bytes lines told old new source tells written = absurd written
reports contents options (Err (faults.Source fault)) bytes lines told old new source tells written = absurd written
reports contents options (Err (faults.Compare fault)) bytes lines told old new source tells written = absurd written
