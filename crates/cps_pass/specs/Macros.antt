-- MACRO, and calls of macros. From the manual's sections on macro definitions and on macro calls; which names and parameters a macro may have, and that a call
-- with too many arguments opens nothing, are our profile's.
use Rattle.std.specs.Prelude.{ℕ, Bool, true, false, nat_lt, length, is_none, map, List, [], ◌∷◌, Option, None, Some, if◌then◌else◌}
use Rattle.cps_text.specs.declared.name.Name.{Name}
use Rattle.cps_text.specs.Arguments.{has_unclosed, arguments_of}
use Rattle.cps_text.specs.Insertion.{Pairs, inserted}
use Rattle.cps_text.specs.Name.{name_text}
use Rattle.cps_code.specs.Place.{position}
use Rattle.cps_code.specs.Builtin.{is_builtin}
use Rattle.cps_state.specs.declared.key.Control.{Control}
use Rattle.cps_state.specs.declared.key.Macro.{Macro}
use Rattle.cps_state.specs.declared.key.Mode.{Mode}
use Rattle.cps_state.specs.declared.key.Mode.TheVariants.{KeepMacro}
use Rattle.cps_state.specs.declared.made.Shown.TheVariants as shown
use Rattle.cps_state.specs.Course.{Part, ◌before◌, fill}
use Rattle.cps_state.specs.Flags.{joined}
use Rattle.cps_state.specs.Made.{Made, nothing_made, no_flags}
use Rattle.cps_pass.specs.declared.reading.Location.{Location}
use Rattle.cps_pass.specs.declared.reading.Location.TheVariants.{Absent, Plus, Minus, Symbol, NoSymbol}
use Rattle.cps_pass.specs.declared.placing.Site.{Site}
use Rattle.cps_pass.specs.Places.{filling_between, here_at}
use Rattle.cps_pass.specs.Placing.{asking_site, placing_flags, advancing, word_start}
use Rattle.cps_pass.specs.declared.scope.Scope.{Scope}
use Rattle.cps_pass.specs.Keeping.{no_lines}
use Rattle.cps_pass.specs.Opening.{Opening, plain, naming, none_opened}
use Rattle.cps_pass.specs.Scope.{going_by, flagging, Behind}

-- ---- MACRO

-- a macro's name is a symbol, and no operation of either machine or of the statement table
abbrev pub definable : Name → Option Name
definable name = if is_builtin (name_text name) then None else Some name

abbrev pub macro_name : Location → Option Name
macro_name Absent = None
macro_name Plus = None
macro_name Minus = None
macro_name (Symbol name) = definable name
macro_name NoSymbol = None

-- without a name, or with parameters that can't be read, the definition is kept and dropped at its end
abbrev pub macro_mode : Option Name → Option (List Name) → Mode
macro_mode (Some name) (Some parameters) = KeepMacro (record { name = Some name; parameters = parameters; kept = no_lines })
macro_mode name parameters = KeepMacro (record { name = None; parameters = []; kept = no_lines })

-- None: the parameters can't be read
abbrev pub macro_from : Control → Scope → Location → Option (List Name) → (Scope → Part) → Part
macro_from control scope location parameters next =
    going_by control scope (macro_mode (macro_name location) parameters)
    (λ later. flagging (record no_flags { location = is_none (macro_name location); operand = is_none parameters }) later next)

-- ---- the location field of a call: a symbol is defined, at the beginning of a word

abbrev pub labelled : Site → Made
labelled site = record (nothing_made (placing_flags site)) {
  machine = site.machine;
  filling = filling_between (position site.place) (word_start site);
  shown = shown.Address (here_at site.block (word_start site));
}

abbrev pub labelling : Control → Location → (Made → Part) → Part
labelling control location next =
    asking_site control location (λ site. advancing site (word_start site) (word_start site) false before next (labelled site))

abbrev pub call_at : Control → Location → (Made → Part) → Part
call_at control Absent next = next (nothing_made no_flags)
call_at control Plus next = next (nothing_made (record no_flags { location = true }))
call_at control Minus next = next (nothing_made (record no_flags { location = true }))
call_at control (Symbol name) next = labelling control (Symbol name) next
call_at control NoSymbol next = next (nothing_made (record no_flags { location = true }))

-- ---- arguments

-- each parameter with its argument; those that are missing are empty
abbrev pub pairs_of : List Name → List (List ℕ) → Pairs
pairs_of [] arguments = []
pairs_of (parameter ∷ parameters) [] = (parameter, []) ∷ pairs_of parameters []
pairs_of (parameter ∷ parameters) (argument ∷ arguments) = (parameter, argument) ∷ pairs_of parameters arguments

-- None: there are too many
abbrev pub paired : List Name → List (List ℕ) → Option Pairs
paired parameters arguments = if nat_lt (length parameters) (length arguments) then None else Some (pairs_of parameters arguments)

-- a macro without parameters doesn't read the variable field; None: a parenthesis stays open, or there are too many
abbrev pub bound : List Name → List ℕ → Option Pairs
bound [] tail = Some []
bound (parameter ∷ parameters) tail = if has_unclosed tail then None else paired (parameter ∷ parameters) (arguments_of tail)

-- ---- the call

-- A where the arguments can't be read or are too many
abbrev pub call_made : Made → Bool → Made
call_made made true = made
call_made made false = record made { flags = joined made.flags (record no_flags { operand = true }) }

-- a macro without LOCAL lines stands for its lines with the arguments; the lines behind LOCAL lines wait for the names of these
abbrev pub opening_behind : List (List ℕ) → Pairs → List (List ℕ) → Opening
opening_behind [] pairs lines = plain (map (inserted pairs) lines)
opening_behind (local ∷ locals) pairs lines = naming pairs (local ∷ locals) lines

abbrev pub opening_with : Pairs → Macro → Opening
opening_with pairs named = opening_behind named.locals pairs named.lines

-- the lines of the body with the arguments, and none where there are no such
abbrev pub calling_with : Scope → Made → Macro → Option Pairs → Behind → Part
calling_with scope made named None behind = fill (call_made made false) before behind scope none_opened
calling_with scope made named (Some pairs) behind = fill (call_made made true) before behind scope (opening_with pairs named)

abbrev pub calling : Control → Scope → Location → Macro → List ℕ → Behind → Part
calling control scope location named tail behind = call_at control location (λ made. calling_with scope made named (bound named.parameters tail) behind)
