-- For the code of a statement's form, not part of what a reader believes: what a function answers that looks for the form of a known operation.
use Rattle.std.specs.Prelude.{◌≡◌, Option, None, Some, IsSome, Result, Ok, Err}
use Rattle.cps_code.specs.declared.forms.FormFault.{FormFault}
use Rattle.cps_code.specs.declared.forms.FormFault.TheVariants.{NoOperation, Unreadable, Memory}
use Rattle.cps_code.specs.Form.{Form}

-- the form that a statement has; Unreadable where it has none, and Memory only where it has one
abbrev pub Answers : Option Form → Result Form FormFault → Type 0
Answers form (Ok answered) = form ≡ Some answered
Answers form (Err NoOperation) = ⊥
Answers form (Err Unreadable) = form ≡ None
Answers form (Err Memory) = IsSome form
