-- For the code of pass one, not part of what a reader believes: the statements that are opened.
use Rattle.std.specs.Prelude.{ℕ, List, Option, None, Some}
use Rattle.cps_text.specs.Insertion.{pairs_value}
use Rattle.cps_pass.specs.declared.opened.Opened.{Opened}
use Rattle.cps_pass.specs.declared.opened.Opened.TheVariants.{Lines, Naming}
use Rattle.cps_pass.specs.declared.opened.Body.{Body}
use Rattle.cps_pass.specs.declared.opened.Repeated.{Repeated}
use Rattle.cps_pass.specs.Opening.{Opening, plain, naming, none_opened}
use Rattle.cps_pass.specs.Treating.{repeated}

abbrev pub lines_of : Repeated → List (List ℕ)
lines_of opened = repeated opened.times opened.lines.items

abbrev pub body_opening : Body → Opening
body_opening body = naming (pairs_value body.pairs.items) body.locals body.lines

abbrev pub opening_of : Option Opened → Opening
opening_of None = none_opened
opening_of (Some (Lines opened)) = plain (lines_of opened)
opening_of (Some (Naming body)) = body_opening body.value
