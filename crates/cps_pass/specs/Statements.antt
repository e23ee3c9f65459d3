-- Statements that neither skip lines nor keep nor open them, by what they say. From the manual's chapter on pseudo instructions.
use Rattle.std.specs.Prelude.{None, Some}
use Rattle.cps_expr.specs.declared.machine.Machine.TheVariants.{Cp, Pp}
use Rattle.cps_expr.specs.declared.operation.Operation.{Operation}
use Rattle.cps_expr.specs.declared.operation.Operation.TheVariants as operation
use Rattle.cps_expr.specs.declared.pseudo.Pseudo.{Pseudo}
use Rattle.cps_expr.specs.declared.pseudo.Pseudo.TheVariants as row
use Rattle.cps_state.specs.declared.key.Control.{Control}
use Rattle.cps_state.specs.Course.{Part}
use Rattle.cps_pass.specs.declared.reading.Location.{Location}
use Rattle.cps_pass.specs.Fields.{vfd, unread_vfd}
use Rattle.cps_pass.specs.Head.{ident, declaration, base}
use Rattle.cps_pass.specs.Located.{present_flags}
use Rattle.cps_pass.specs.Making.{flagged, misplaced, unknown, unread}
use Rattle.cps_pass.specs.Origin.{org, unread_org}
use Rattle.cps_pass.specs.Reserving.{bss, bssz}
use Rattle.cps_pass.specs.Symbols.{equate, unread_equate, set_symbol, unread_set}
use Rattle.cps_pass.specs.Use.{use_block, unread_use}
use Rattle.cps_pass.specs.Words.{con, data_words, dis, unread_words}

-- with its operands; each row that isn't here has the flag of an operation that isn't there
abbrev pub obeyed_plainly : Control → Location → Pseudo → Part
obeyed_plainly control location (row.Ident name) = ident control location (Some name)
obeyed_plainly control location row.Abs = declaration control location Cp
obeyed_plainly control location row.Periph = declaration control location Pp
obeyed_plainly control location (row.Base radix) = base control location radix
obeyed_plainly control location (row.Equate terms) = equate control location terms
obeyed_plainly control location (row.Set terms) = set_symbol control location terms
obeyed_plainly control location row.Listing = flagged (present_flags location)
obeyed_plainly control location (row.Org terms) = org control location terms
obeyed_plainly control location (row.Use block) = use_block control location block
obeyed_plainly control location (row.Bss terms) = bss control location terms
obeyed_plainly control location (row.Bssz terms) = bssz control location terms
obeyed_plainly control location (row.Con values) = con control location values
obeyed_plainly control location (row.Data numbers) = data_words control location numbers
obeyed_plainly control location (row.Vfd fields) = vfd control location fields
obeyed_plainly control location (row.Dis text) = dis control location text
obeyed_plainly control location (row.Local names) = misplaced
obeyed_plainly control location _ = unknown

-- with operands that can't be read; those that aren't here take no location field
abbrev pub unreadable_plainly : Control → Location → Operation → Part
unreadable_plainly control location operation.Ident = ident control location None
unreadable_plainly control location operation.Equate = unread_equate location
unreadable_plainly control location operation.Set = unread_set location
unreadable_plainly control location operation.Org = unread_org control location
unreadable_plainly control location operation.Use = unread_use control location
unreadable_plainly control location operation.Bss = unread_words control location
unreadable_plainly control location operation.Bssz = unread_words control location
unreadable_plainly control location operation.Con = unread_words control location
unreadable_plainly control location operation.Data = unread_words control location
unreadable_plainly control location operation.Vfd = unread_vfd control location
unreadable_plainly control location operation.Dis = unread_words control location
unreadable_plainly control location operation.Local = misplaced
unreadable_plainly control location _ = unread location
