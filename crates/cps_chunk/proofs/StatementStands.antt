-- Statements that neither skip, keep nor open lines stand only where they ask the counter of the block in use.
use Rattle.cps_code.specs.Form.{Form}
use Rattle.cps_code.specs.Place.{position}
use Rattle.cps_code.specs.declared.place.Place.{Place}
use Rattle.cps_pass.specs.End.{end, ending}
use Rattle.cps_pass.specs.Leaving.{left, using}
use Rattle.cps_pass.specs.Origin.{moving, moving_by, moving_to, org, org_from, unread_org}
use Rattle.cps_pass.specs.Fields.{fields_in, unread_fields_at}
use Rattle.cps_pass.specs.Head.{base, declaration, declaration_flags, entering, ident, ident_flags, in_body, is_in_head, is_late_declaration, is_late_name, leaving_head, putting_control, same_radix, with_declaration, with_name}
use Rattle.cps_pass.specs.Instruction.{coded, instruction, peripheral_coded, peripheral_instruction}
use Rattle.cps_pass.specs.Located.{defining, is_labelled, present_flags, symbol_in}
use Rattle.cps_pass.specs.Making.{flagged, unmatched, unread}
use Rattle.cps_pass.specs.Numbers.{not_negative}
use Rattle.cps_pass.specs.Places.{asking_place, going_on, here_at, place_left}
use Rattle.cps_pass.specs.Placing.{start_for, word_start}
use Rattle.cps_pass.specs.Reserving.{reserving}
use Rattle.cps_pass.specs.Statements.{obeyed_plainly, unreadable_plainly}
use Rattle.cps_pass.specs.Symbols.{asking_settable, equate, equate_flags, equate_to, listing_value, set_symbol, set_to, setting, unread_equate, unread_set, with_known}
use Rattle.cps_pass.specs.Use.{before_previous, beginning_block, going_to, going_to_named, going_to_new, has_begun, leaving, left_behind, most_blocks, previous, unread_use, use_block}
use Rattle.cps_pass.specs.ValueNow.{now, now_here}
use Rattle.cps_pass.specs.Words.{displaying, unread_words_at, number_words, unread_words, value_words, words}
use Rattle.cps_pass.specs.declared.located.Definition.TheVariants.{Free, Labelled, Set}
use Rattle.cps_pass.specs.declared.located.Definition.{Definition}
use Rattle.cps_pass.specs.declared.value_now.ValueNow.TheVariants.{Known, NoValue, Undefined}
use Rattle.cps_pass.specs.declared.value_now.ValueNow.{ValueNow}
use Rattle.cps_expr.specs.Expression.{Expression, has_counter}
use Rattle.cps_expr.specs.Value.{plain}
use Rattle.cps_expr.specs.declared.machine.Machine.TheVariants.{Cp, Pp}
use Rattle.cps_expr.specs.declared.machine.Machine.{Machine}
use Rattle.cps_expr.specs.declared.operation.Operation.TheVariants as operation
use Rattle.cps_expr.specs.declared.operation.Operation.{Operation}
use Rattle.cps_expr.specs.declared.radix.Radix.{Radix}
use Rattle.cps_expr.specs.declared.pseudo.Block.TheVariants.{Named, Nominal, Previous}
use Rattle.cps_expr.specs.declared.pseudo.Block.{Block}
use Rattle.cps_expr.specs.declared.pseudo.Pseudo.TheVariants as row
use Rattle.cps_expr.specs.declared.pseudo.Pseudo.{Pseudo}
use Rattle.cps_expr.specs.declared.value.Value.{Value as AValue}
use Rattle.cps_chunk.proofs.PlacingStands.{asked-place-fits, coded-settles, defining-fits, displayed-settles, fields-settle, now-fits, peripheral-settles, reserving-settles, site-fits, standing-fits, taken-fits, telling-fits, unread-settles, words-settle}
use Rattle.cps_chunk.proofs.StandLemmas.{Fits, Mark, ask-fits, if-fits, mark_of, settled}
use Rattle.cps_pass.specs.declared.reading.Location.{Location}
use Rattle.cps_state.specs.Course.{Course, Part, asking, fill, nothing, telling_if, ◌before◌}
use Rattle.cps_state.specs.Keys.{count_of, is_no_range, ranges_of, same_block, uses_of}
use Rattle.cps_state.specs.Machines.{limit}
use Rattle.cps_state.specs.Made.{nothing_made}
use Rattle.cps_state.specs.declared.key.Answer.{Answer}
use Rattle.cps_state.specs.declared.key.Control.{Control}
use Rattle.cps_state.specs.declared.key.Key.TheVariants as key
use Rattle.cps_state.specs.declared.key.Mode.{Mode}
use Rattle.cps_state.specs.declared.made.Shown.TheVariants as shown
use Rattle.cps_text.specs.declared.name.Name.{Name}
use Rattle.std.proofs.Common.{Bool, List, None, Option, Some, false, not, refl, true, ℕ, ◌*◌, ◌+◌, ◌||◌}
use Rattle.std.specs.Prelude.{nat_lt, pos}

-- ---- ORG, USE and END

using-fits : (b : Option Name) (m : Mark) (control : Control) (block : Option Name) (rest : Course) → Fits b rest m → Fits b (using control block rest) m
using-fits b m control block rest later =
    if-fits b m (same_block control.block block) nothing (putting_control (record control { block = block })) rest later later

moving-to-settles : (b : Option Name) (control : Control) (location : Location) (place : Place) (block : Option Name) (address : ℕ) (rest : Course)
    → Fits b rest settled → Fits b (moving_to control location place block address rest) settled
moving-to-settles b control location place block address rest later =
    let made = record (left control location place) { shown = shown.Address (record { block = block; offset = pos address }) } in
    if-fits b settled (nat_lt (limit control.machine) address) (unmatched location)
    (going_on control.block (place_left place) false before going_on block (60 * address) false before using control block before fill made) rest
    later (using-fits b settled control block (fill made rest) later)

moving-by-settles : (b : Option Name) (control : Control) (location : Location) (place : Place) (block : Option Name) (address : Option ℕ) (rest : Course)
    → Fits b rest settled → Fits b (moving_by control location place block address rest) settled
moving-by-settles b control location place block None rest later = later
moving-by-settles b control location place block (Some address) rest later = moving-to-settles b control location place block address rest later

moving-settles : (b : Option Name) (control : Control) (location : Location) (place : Place) (value : ValueNow) (rest : Course)
    → Fits b rest settled → Fits b (moving control location place value rest) settled
moving-settles b control location place Undefined rest later = later
moving-settles b control location place NoValue rest later = later
moving-settles b control location place (Known value) rest later = moving-by-settles b control location place value.block (not_negative value.offset) rest later

org-fits : (control : Control) (m : Bool) (location : Location) (terms : Expression) (rest : Course)
    → Fits control.block rest settled → Fits control.block (org control location terms rest) (mark_of m)
org-fits control m location terms rest later =
    asked-place-fits control m (λ place. org_from control location place terms) rest (λ place.
    now-fits control.block true terms (here_at control.block (place_left place)) (λ value. moving control location place value) rest (λ value.
    moving-settles control.block control location place value rest later))

unread-org-fits : (control : Control) (m : Bool) (location : Location) (rest : Course) → Fits control.block rest settled → Fits control.block (unread_org control location rest) (mark_of m)
unread-org-fits control m location rest later = asked-place-fits control m (λ place. unread location) rest (λ place. later)

pub end-fits : (control : Control) (m : Bool) (mode : Mode) (location : Location) (rest : Course)
    → Fits control.block rest settled → Fits control.block (end control mode location rest) (mark_of m)
end-fits control m mode location rest later =
    ask-fits control.block m key.Ifs (λ a. asking_place control (λ place. ending control mode location (is_no_range (ranges_of a)) place) rest) refl (λ a.
    asked-place-fits control m (λ place. ending control mode location (is_no_range (ranges_of a)) place) rest (λ place. later))

beginning-fits : (b : Option Name) (m : Mark) (block : Option Name) (count : Option ℕ) (rest : Course) → Fits b rest m → Fits b (beginning_block block count rest) m
beginning-fits b m block None rest later = later
beginning-fits b m block (Some count) rest later = later

going-settles : (b : Option Name) (control : Control) (location : Location) (place : Place) (uses : List (Option Name)) (count : Option ℕ) (block : Option Name) (rest : Course)
    → Fits b rest settled → Fits b (going_to control location place uses count block rest) settled
going-settles b control location place uses count block rest later =
    beginning-fits b settled block count (using control block (fill (left control location place) rest))
    (using-fits b settled control block (fill (left control location place) rest) later)

going-new-settles : (b : Option Name) (control : Control) (location : Location) (place : Place) (uses : List (Option Name)) (name : Name) (count : ℕ) (rest : Course)
    → Fits b rest settled → Fits b (going_to_new control location place uses name count rest) settled
going-new-settles b control location place uses name count rest later =
    if-fits b settled (nat_lt count most_blocks) (going_to control location place (left_behind control.block uses) (Some (count + 1)) (Some name)) (unmatched location) rest
    (going-settles b control location place (left_behind control.block uses) (Some (count + 1)) (Some name) rest later) later

going-named-settles : (b : Option Name) (control : Control) (location : Location) (place : Place) (uses : List (Option Name)) (name : Name) (a : Option Answer) (rest : Course)
    → Fits b rest settled → Fits b (going_to_named control location place uses name a rest) settled
going-named-settles b control location place uses name a rest later =
    if-fits b settled (has_begun control.block name a) (going_to control location place (left_behind control.block uses) None (Some name))
    (asking key.Blocks (λ n. going_to_new control location place uses name (count_of n))) rest
    (going-settles b control location place (left_behind control.block uses) None (Some name) rest later)
    (λ n. going-new-settles b control location place uses name (count_of n) rest later)

leaving-settles : (b : Option Name) (control : Control) (location : Location) (place : Place) (uses : List (Option Name)) (block : Block) (rest : Course)
    → Fits b rest settled → Fits b (leaving control location place uses block rest) settled
leaving-settles b control location place uses Nominal rest later = going-settles b control location place (left_behind control.block uses) None None rest later
leaving-settles b control location place uses Previous rest later = going-settles b control location place (before_previous uses) None (previous uses) rest later
leaving-settles b control location place uses (Named name) rest later = λ a. going-named-settles b control location place uses name a rest later

use-fits : (control : Control) (m : Bool) (location : Location) (block : Block) (rest : Course)
    → Fits control.block rest settled → Fits control.block (use_block control location block rest) (mark_of m)
use-fits control m location block rest later =
    asked-place-fits control m (λ place. asking key.Uses (λ a. leaving control location place (uses_of a) block)) rest (λ place a.
    leaving-settles control.block control location place (uses_of a) block rest later)

unread-use-fits : (control : Control) (m : Bool) (location : Location) (rest : Course) → Fits control.block rest settled → Fits control.block (unread_use control location rest) (mark_of m)
unread-use-fits control m location rest later = asked-place-fits control m (λ place. asking key.Uses (λ a. unread location)) rest (λ place a. later)

-- ---- the head

ident-fits : (b : Option Name) (m : Mark) (control : Control) (location : Location) (name : Option Name) (rest : Course) → Fits b rest m → Fits b (ident control location name rest) m
ident-fits b m control location None rest later = later
ident-fits b m control location (Some name) rest later =
    let flags = ident_flags control.phase location (Some name) in
    if-fits b m (is_late_name control.phase) (flagged flags)
    (entering control (with_name control.phase) before fill (record (nothing_made flags) { program = Some name })) rest later later

declaration-fits : (b : Option Name) (m : Mark) (control : Control) (location : Location) (machine : Machine) (rest : Course) → Fits b rest m → Fits b (declaration control location machine rest) m
declaration-fits b m control location machine rest later =
    if-fits b m (is_late_declaration control.phase) nothing (putting_control (record control { phase = with_declaration control.phase; machine = machine }))
    (flagged (declaration_flags control.phase location) rest) later later

base-fits : (b : Option Name) (m : Mark) (control : Control) (location : Location) (radix : Radix) (rest : Course) → Fits b rest m → Fits b (base control location radix rest) m
base-fits b m control location radix rest later =
    if-fits b m (same_radix control.radix radix) nothing (putting_control (record control { radix = radix })) (flagged (present_flags location) rest) later later

pub leaving-head-fits : (b : Option Name) (m : Mark) (stays : Bool) (control : Control) (next : Control → Part) (rest : Course)
    → Fits b (next control rest) m → Fits b (next (in_body control) rest) m → Fits b (leaving_head stays control next rest) m
leaving-head-fits b m stays control next rest here there =
    if-fits b m (stays || not (is_in_head control.phase)) (next control) (putting_control (in_body control) before next (in_body control)) rest here there

-- ---- values where `*` may stand

pub here-fits : (control : Control) (m : Bool) (terms : Expression) (next : ValueNow → Part) (rest : Course)
    → ((placed : Bool) (value : ValueNow) → Fits control.block (next value rest) (mark_of placed)) → Fits control.block (now_here control terms next rest) (mark_of m)
here-fits control m terms next rest later =
    if-fits control.block (mark_of m) (has_counter terms) (asking_place control (λ place. now terms (here_at control.block (position place)) next)) (now terms (plain (pos 0)) next) rest
    (asked-place-fits control m (λ place. now terms (here_at control.block (position place)) next) rest (λ place.
    now-fits control.block true terms (here_at control.block (position place)) next rest (later true)))
    (now-fits control.block m terms (plain (pos 0)) next rest (later m))

-- ---- EQU and SET

known-fits : (b : Option Name) (m : Mark) (value : ValueNow) (next : AValue → Part) (rest : Course)
    → Fits b rest m → ((known : AValue) → Fits b (next known rest) m) → Fits b (with_known value next rest) m
known-fits b m Undefined next rest none some = none
known-fits b m NoValue next rest none some = none
known-fits b m (Known value) next rest none some = some value

equate-fits : (control : Control) (m : Bool) (location : Location) (terms : Expression) (rest : Course)
    → ((placed : Bool) → Fits control.block rest (mark_of placed)) → Fits control.block (equate control location terms rest) (mark_of m)
equate-fits control m location terms rest later =
    taken-fits control.block m (symbol_in location) (λ is_taken. now_here control terms (λ value. equate_to location is_taken value)) rest (λ is_taken.
    here-fits control m terms (λ value. equate_to location is_taken value) rest (λ placed value.
    let made = fill (listing_value (equate_flags location is_taken) value) rest in
    known-fits control.block (mark_of placed) value (defining (symbol_in location) is_taken) made (later placed) (λ known.
    defining-fits control.block (mark_of placed) (symbol_in location) is_taken known made (later placed))))

unread-equate-fits : (b : Option Name) (m : Bool) (location : Location) (rest : Course) → Fits b rest (mark_of m) → Fits b (unread_equate location rest) (mark_of m)
unread-equate-fits b m location rest later =
    taken-fits b m (symbol_in location) (λ is_taken. flagged (record (equate_flags location is_taken) { operand = true })) rest (λ is_taken. later)

setting-fits : (b : Option Name) (m : Mark) (symbol : Option Name) (standing : Definition) (value : AValue) (rest : Course) → Fits b rest m → Fits b (setting symbol standing value rest) m
setting-fits b m None standing value rest later = later
setting-fits b m (Some name) Free value rest later = later
setting-fits b m (Some name) Labelled value rest later = later
setting-fits b m (Some name) Set value rest later = later

settable-fits : (b : Option Name) (m : Bool) (symbol : Option Name) (next : Definition → Part) (rest : Course)
    → ((standing : Definition) → Fits b (next standing rest) (mark_of m)) → Fits b (asking_settable symbol next rest) (mark_of m)
settable-fits b m None next rest later = later Free
settable-fits b m (Some name) next rest later =
    standing-fits b m name (λ standing. telling_if (is_labelled standing) name before next standing) rest (λ standing.
    telling-fits b (mark_of m) (is_labelled standing) name (next standing rest) (later standing))

set-fits : (control : Control) (m : Bool) (location : Location) (terms : Expression) (rest : Course)
    → ((placed : Bool) → Fits control.block rest (mark_of placed)) → Fits control.block (set_symbol control location terms rest) (mark_of m)
set-fits control m location terms rest later =
    settable-fits control.block m (symbol_in location) (λ standing. now_here control terms (λ value. set_to location standing value)) rest (λ standing.
    here-fits control m terms (λ value. set_to location standing value) rest (λ placed value.
    let made = fill (listing_value (equate_flags location (is_labelled standing)) value) rest in
    known-fits control.block (mark_of placed) value (setting (symbol_in location) standing) made (later placed) (λ known.
    setting-fits control.block (mark_of placed) (symbol_in location) standing known made (later placed))))

unread-set-fits : (b : Option Name) (m : Bool) (location : Location) (rest : Course) → Fits b rest (mark_of m) → Fits b (unread_set location rest) (mark_of m)
unread-set-fits b m location rest later =
    settable-fits b m (symbol_in location) (λ standing. flagged (record (equate_flags location (is_labelled standing)) { operand = true })) rest (λ standing. later)

-- ---- by what a statement says

unread-words-fit : (control : Control) (m : Bool) (location : Location) (rest : Course) → Fits control.block rest settled → Fits control.block (unread_words control location rest) (mark_of m)
unread-words-fit control m location rest later = site-fits control location m unread_words_at rest (λ site. unread-settles control.block site (word_start site) rest later)

pub instruction-fits : (control : Control) (m : Bool) (location : Location) (form : Option Form) (rest : Course)
    → Fits control.block rest settled → Fits control.block (instruction control location form rest) (mark_of m)
instruction-fits control m location form rest later = site-fits control location m (coded form) rest (λ site. coded-settles control.block form site rest later)

pub peripheral-fits : (control : Control) (m : Bool) (location : Location) (form : Option Form) (rest : Course)
    → Fits control.block rest settled → Fits control.block (peripheral_instruction control location form rest) (mark_of m)
peripheral-fits control m location form rest later =
    site-fits control location m (peripheral_coded form) rest (λ site. peripheral-settles control.block form site rest later)

pub obeyed-fits : (control : Control) (m : Bool) (location : Location) (stated : Pseudo) (rest : Course)
    → ((placed : Bool) → Fits control.block rest (mark_of placed)) → Fits control.block (obeyed_plainly control location stated rest) (mark_of m)
obeyed-fits control m location (row.Ident name) rest later = ident-fits control.block (mark_of m) control location (Some name) rest (later m)
obeyed-fits control m location row.Abs rest later = declaration-fits control.block (mark_of m) control location Cp rest (later m)
obeyed-fits control m location row.Periph rest later = declaration-fits control.block (mark_of m) control location Pp rest (later m)
obeyed-fits control m location (row.Base radix) rest later = base-fits control.block (mark_of m) control location radix rest (later m)
obeyed-fits control m location (row.Equate terms) rest later = equate-fits control m location terms rest later
obeyed-fits control m location (row.Set terms) rest later = set-fits control m location terms rest later
obeyed-fits control m location (row.Local names) rest later = later m
obeyed-fits control m location row.Listing rest later = later m
obeyed-fits control m location (row.Org terms) rest later = org-fits control m location terms rest (later true)
obeyed-fits control m location (row.Use block) rest later = use-fits control m location block rest (later true)
obeyed-fits control m location (row.Bss terms) rest later =
    site-fits control location m (reserving false terms) rest (λ site. reserving-settles control.block false terms site rest (later true))
obeyed-fits control m location (row.Bssz terms) rest later =
    site-fits control location m (reserving true terms) rest (λ site. reserving-settles control.block true terms site rest (later true))
obeyed-fits control m location (row.Con values) rest later =
    site-fits control location m (words (value_words control.machine values)) rest (λ site. words-settle control.block (value_words control.machine values) site rest (later true))
obeyed-fits control m location (row.Data numbers) rest later =
    site-fits control location m (words (number_words control.machine numbers)) rest (λ site. words-settle control.block (number_words control.machine numbers) site rest (later true))
obeyed-fits control m location (row.Vfd fields) rest later = site-fits control location m (fields_in fields) rest (λ site. fields-settle control.block fields site rest (later true))
obeyed-fits control m location (row.Dis text) rest later = site-fits control location m (displaying text) rest (λ site. displayed-settles control.block text site rest (later true))
obeyed-fits control m location (row.Compare test) rest later = later m
obeyed-fits control m location (row.If test) rest later = later m
obeyed-fits control m location row.Else rest later = later m
obeyed-fits control m location row.Endif rest later = later m
obeyed-fits control m location (row.Dup repetition) rest later = later m
obeyed-fits control m location row.Endd rest later = later m
obeyed-fits control m location (row.Macro parameters) rest later = later m
obeyed-fits control m location row.Endm rest later = later m
obeyed-fits control m location row.End rest later = later m

pub unreadable-fits : (control : Control) (m : Bool) (location : Location) (named : Operation) (rest : Course)
    → ((placed : Bool) → Fits control.block rest (mark_of placed)) → Fits control.block (unreadable_plainly control location named rest) (mark_of m)
unreadable-fits control m location operation.Ident rest later = later m
unreadable-fits control m location operation.Equate rest later = unread-equate-fits control.block m location rest (later m)
unreadable-fits control m location operation.Set rest later = unread-set-fits control.block m location rest (later m)
unreadable-fits control m location operation.Org rest later = unread-org-fits control m location rest (later true)
unreadable-fits control m location operation.Use rest later = unread-use-fits control m location rest (later true)
unreadable-fits control m location operation.Bss rest later = unread-words-fit control m location rest (later true)
unreadable-fits control m location operation.Bssz rest later = unread-words-fit control m location rest (later true)
unreadable-fits control m location operation.Con rest later = unread-words-fit control m location rest (later true)
unreadable-fits control m location operation.Data rest later = unread-words-fit control m location rest (later true)
unreadable-fits control m location operation.Vfd rest later = site-fits control location m unread_fields_at rest (λ site. unread-settles control.block site (start_for site 0) rest (later true))
unreadable-fits control m location operation.Dis rest later = unread-words-fit control m location rest (later true)
unreadable-fits control m location operation.Abs rest later = later m
unreadable-fits control m location operation.Periph rest later = later m
unreadable-fits control m location operation.Base rest later = later m
unreadable-fits control m location (operation.Compare relation) rest later = later m
unreadable-fits control m location operation.If rest later = later m
unreadable-fits control m location operation.Else rest later = later m
unreadable-fits control m location operation.Endif rest later = later m
unreadable-fits control m location operation.Dup rest later = later m
unreadable-fits control m location operation.Endd rest later = later m
unreadable-fits control m location operation.Macro rest later = later m
unreadable-fits control m location operation.Endm rest later = later m
unreadable-fits control m location operation.End rest later = later m
unreadable-fits control m location operation.Local rest later = later m
unreadable-fits control m location operation.Listing rest later = later m
