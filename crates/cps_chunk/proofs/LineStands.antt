-- Each statement of a line stands only where it asks the counter of the block in use.
use Rattle.cps_pass.specs.Head.{in_body}
use Rattle.cps_pass.specs.Located.{has_value, present_flags}
use Rattle.cps_pass.specs.Making.{flagged, misplaced}
use Rattle.cps_pass.specs.Numbers.{plain_number}
use Rattle.cps_pass.specs.Placing.{advancing, word_start}
use Rattle.cps_pass.specs.ValueNow.{now_here}
use Rattle.cps_pass.specs.declared.value_now.ValueNow.{ValueNow}
use Rattle.cps_expr.specs.Expression.{Expression}
use Rattle.cps_expr.specs.declared.operation.Operation.TheVariants as operation
use Rattle.cps_expr.specs.declared.operation.Operation.{Operation}
use Rattle.cps_expr.specs.declared.pseudo.ValueTest.{ValueTest}
use Rattle.cps_expr.specs.declared.pseudo.Repetition.{Repetition}
use Rattle.cps_expr.specs.declared.pseudo.Pseudo.TheVariants as row
use Rattle.cps_expr.specs.declared.pseudo.Pseudo.{Pseudo}
use Rattle.cps_expr.specs.declared.pseudo.SymbolTest.{SymbolTest}
use Rattle.cps_chunk.proofs.PlacingStands.{asked-place-fits, settling-settles, site-fits, standing-fits}
use Rattle.cps_chunk.proofs.StandLemmas.{Fits, Mark, ask-fits, asked-stand, fresh, if-fits, mark_of, settled, stands, stop-fits}
use Rattle.cps_chunk.proofs.StatementStands.{end-fits, here-fits, instruction-fits, leaving-head-fits, obeyed-fits, peripheral-fits, unreadable-fits}
use Rattle.cps_chunk.specs.Standing.{StandsWhereItAsks}
use Rattle.cps_pass.specs.Keeping.{kept_for_dup, kept_for_macro, no_lines}
use Rattle.cps_pass.specs.Macros.{bound, call_at, calling, calling_with, labelled, labelling, opening_with}
use Rattle.cps_text.specs.CardIn.{card_in}
use Rattle.cps_pass.specs.Locals.{macro_of_lines}
use Rattle.cps_pass.specs.Opening.{Opening, plain, none_opened}
use Rattle.cps_pass.specs.Meaning.{assembled, before_end, after_end, calling_if, calling_named, end_in, endm, in_mode, in_phase, macro, obeyed, stated, statement, stays_in_head, unreadable}
use Rattle.cps_pass.specs.Ranges.{beginning_range, closed, compared, count_flags, counting, defined, else_of, endif_of, hanging, if_compared, if_defined, line_count, opening, skipping_lines, test_flags, turned_round}
use Rattle.cps_pass.specs.Repeating.{body_count, dup, repeating, repeating_by, repeating_lines, times_flags, times_in}
use Rattle.cps_pass.specs.Scope.{Behind, asking_lines, asking_ranges, flagging, going_by, keeping, mode_in, opens_nothing, putting_ranges, taking_body}
use Rattle.cps_pass.specs.Seen.{seen_in}
use Rattle.cps_pass.specs.Skipping.{skipped_in_range, skipped_line}
use Rattle.cps_pass.specs.Treating.{changing, defining_macro, keeping_at, last_line, passing, repeated, resuming, treated}
use Rattle.cps_pass.specs.declared.ranges.Tested.{Tested}
use Rattle.cps_pass.specs.declared.scope.Scope.TheVariants.{Expansion, Source}
use Rattle.cps_pass.specs.declared.scope.Scope.{Scope}
use Rattle.cps_pass.specs.declared.treatment.Treatment.TheVariants.{Defines, Opens, Passes, Resumes}
use Rattle.cps_pass.specs.declared.treatment.Treatment.{Treatment}
use Rattle.cps_pass.specs.Reading.{location_in, reading_in}
use Rattle.cps_pass.specs.declared.reading.Location.TheVariants.{Absent, Minus, NoSymbol, Plus, Symbol}
use Rattle.cps_pass.specs.declared.reading.Location.{Location}
use Rattle.cps_pass.specs.declared.reading.Reading.TheVariants.{Instruction, Missing, Peripheral, Stated, Unknown, Unreadable}
use Rattle.cps_pass.specs.declared.reading.Reading.{Reading}
use Rattle.cps_state.specs.Course.{Course, Part, answer_at, nothing, stop, putting, tell, with_ask, ◌before◌}
use Rattle.cps_state.specs.Flags.{joined}
use Rattle.cps_state.specs.Keys.{control_of, macro_of, mode_of, most_ranges, ranges_of, text_of}
use Rattle.cps_state.specs.Machines.{behind}
use Rattle.cps_state.specs.Made.{Made, no_flags, nothing_made}
use Rattle.cps_state.specs.contracts.key.ModePartialEq.TheImpl.{eq-value}
use Rattle.cps_state.specs.declared.key.Answer.TheVariants as answer
use Rattle.cps_state.specs.declared.key.Control.{Control}
use Rattle.cps_state.specs.declared.key.Extent.TheVariants.{Counted, ToEndd}
use Rattle.cps_state.specs.declared.key.Extent.{Extent}
use Rattle.cps_state.specs.declared.key.Key.TheVariants as key
use Rattle.cps_state.specs.declared.key.Macro.{Macro}
use Rattle.cps_state.specs.declared.key.MacroBody.{MacroBody}
use Rattle.cps_state.specs.declared.key.Mode.TheVariants.{KeepDup, KeepMacro, Normal, SkipLines, SkipRange}
use Rattle.cps_state.specs.declared.key.Mode.{Mode}
use Rattle.cps_state.specs.declared.key.Phase.TheVariants.{AfterEnd, Body, Head}
use Rattle.cps_state.specs.declared.key.Phase.{Phase}
use Rattle.cps_state.specs.declared.key.OpenRange.TheVariants.{BeforeElse, BehindElse}
use Rattle.cps_state.specs.declared.key.OpenRange.{OpenRange}
use Rattle.cps_text.specs.Card.{CommentLine, ContinuedLine, LineFields, StatementLine}
use Rattle.cps_text.specs.Insertion.{Pairs}
use Rattle.cps_text.specs.declared.name.Name.{Name}
use Rattle.std.proofs.Common.{◌∙◌, Bool, List, None, Option, Some, [], false, length, refl, suc, take, true, zero, ℕ, ◌++◌, ◌+◌, ◌∷◌}
use Rattle.std.specs.Prelude.{nat_eq, nat_le}

-- ---- where a statement stands

going-by-fits : (b : Option Name) (m : Mark) (control : Control) (scope : Scope) (mode : Mode) (next : Scope → Part) (rest : Course)
    → ((there : Scope) → Fits b (next there rest) m) → Fits b (going_by control scope mode next rest) m
going-by-fits b m control Source mode next rest later = later Source
going-by-fits b m control (Expansion own) mode next rest later = later (Expansion (record own { mode = mode }))

ranges-fit : (b : Option Name) (m : Bool) (scope : Scope) (next : List OpenRange → Part) (rest : Course)
    → ((ranges : List OpenRange) → Fits b (next ranges rest) (mark_of m)) → Fits b (asking_ranges scope next rest) (mark_of m)
ranges-fit b m Source next rest later = ask-fits b m key.Ifs (λ a. next (ranges_of a) rest) refl (λ a. later (ranges_of a))
ranges-fit b m (Expansion own) next rest later = later own.ranges

putting-fits : (b : Option Name) (m : Mark) (scope : Scope) (ranges : List OpenRange) (next : Scope → Part) (rest : Course)
    → ((there : Scope) → Fits b (next there rest) m) → Fits b (putting_ranges scope ranges next rest) m
putting-fits b m Source ranges next rest later = later Source
putting-fits b m (Expansion own) ranges next rest later = later (Expansion (record own { ranges = ranges }))

keeping-fits : (b : Option Name) (m : Mark) (scope : Scope) (count : ℕ) (text : List ℕ) (next : Scope → Part) (rest : Course)
    → ((there : Scope) → Fits b (next there rest) m) → Fits b (keeping scope count text next rest) m
keeping-fits b m Source count text next rest later = later Source
keeping-fits b m (Expansion own) count text next rest later = later (Expansion (record own { kept = take count own.kept ++ text ∷ [] }))

lines-fit : (b : Option Name) (m : Bool) (first count : ℕ) (next : List (List ℕ) → Part) (rest : Course)
    → ((lines : List (List ℕ)) → Fits b (next lines rest) (mark_of m)) → Fits b (asking_lines first count next rest) (mark_of m)
lines-fit b m first zero next rest later = later []
lines-fit b m first (suc count) next rest later =
    ask-fits b m (key.Kept first) (λ a. asking_lines (first + 1) count (λ lines. next (text_of a ∷ lines)) rest) refl (λ a.
    lines-fit b m (first + 1) count (λ lines. next (text_of a ∷ lines)) rest (λ lines. later (text_of a ∷ lines)))

body-fits : (b : Option Name) (m : Bool) (control : Control) (scope : Scope) (count : ℕ) (next : List (List ℕ) → Scope → Part) (rest : Course)
    → ((lines : List (List ℕ)) (there : Scope) → Fits b (next lines there rest) (mark_of m)) → Fits b (taking_body control scope count next rest) (mark_of m)
body-fits b m control Source count next rest later =
    lines-fit b m 0 count (λ lines. going_by control Source Normal (next lines)) rest (λ lines. later lines Source)
body-fits b m control (Expansion own) count next rest later = later (take count own.kept) (Expansion (record own { mode = Normal; kept = [] }))

-- ---- macros

site-label-fits : (control : Control) (m : Bool) (name : Name) (next : Made → Part) (rest : Course)
    → ((made : Made) → Fits control.block (next made rest) settled) → Fits control.block (labelling control (Symbol name) next rest) (mark_of m)
site-label-fits control m name next rest later =
    site-fits control (Symbol name) m (λ site. advancing site (word_start site) (word_start site) false before next (labelled site)) rest (λ site.
    settling-settles control.block site (word_start site) (word_start site) false (next (labelled site) rest) (later (labelled site)))

call-at-fits : (control : Control) (m : Bool) (location : Location) (next : Made → Part) (rest : Course)
    → ((placed : Bool) (made : Made) → Fits control.block (next made rest) (mark_of placed)) → Fits control.block (call_at control location next rest) (mark_of m)
call-at-fits control m Absent next rest later = later m (nothing_made no_flags)
call-at-fits control m Plus next rest later = later m (nothing_made (record no_flags { location = true }))
call-at-fits control m Minus next rest later = later m (nothing_made (record no_flags { location = true }))
call-at-fits control m (Symbol name) next rest later = site-label-fits control m name next rest (later true)
call-at-fits control m NoSymbol next rest later = later m (nothing_made (record no_flags { location = true }))

call-opening-fits : (b : Option Name) (m : Mark) (scope : Scope) (made : Made) (named : Macro) (pairs : Option Pairs) (behind : Behind) (rest : Course)
    → ((there : Scope) (opened : Opening) → Fits b (behind there opened rest) m) → Fits b (calling_with scope made named pairs behind rest) m
call-opening-fits b m scope made named None behind rest later = later scope none_opened
call-opening-fits b m scope made named (Some pairs) behind rest later = later scope (opening_with pairs named)

-- what comes after a statement, wherever it stands by then
abbrev After : Option Name → Behind → Course → Type 0
After b behind rest = (placed : Bool) (there : Scope) (opened : Opening) → Fits b (behind there opened rest) (mark_of placed)

abbrev Next : Option Name → (Scope → Part) → Course → Type 0
Next b next rest = (placed : Bool) (there : Scope) → Fits b (next there rest) (mark_of placed)

calling-fits : (control : Control) (m : Bool) (scope : Scope) (location : Location) (named : Macro) (tail : List ℕ) (behind : Behind) (rest : Course)
    → After control.block behind rest → Fits control.block (calling control scope location named tail behind rest) (mark_of m)
calling-fits control m scope location named tail behind rest later =
    call-at-fits control m location (λ made. calling_with scope made named (bound named.parameters tail) behind) rest (λ placed made.
    call-opening-fits control.block (mark_of placed) scope made named (bound named.parameters tail) behind rest (later placed))

calling-if-fits : (control : Control) (m : Bool) (scope : Scope) (location : Location) (tail : List ℕ) (named : Option Macro) (behind : Behind) (rest : Course)
    → After control.block behind rest → Fits control.block (calling_if control scope location tail named behind rest) (mark_of m)
calling-if-fits control m scope location tail None behind rest later = later m scope none_opened
calling-if-fits control m scope location tail (Some named) behind rest later = calling-fits control m scope location named tail behind rest later

calling-named-fits : (control : Control) (m : Bool) (scope : Scope) (location : Location) (tail : List ℕ) (name : Option Name) (behind : Behind) (rest : Course)
    → After control.block behind rest → Fits control.block (calling_named control scope location tail name behind rest) (mark_of m)
calling-named-fits control m scope location tail None behind rest later = later m scope none_opened
calling-named-fits control m scope location tail (Some name) behind rest later =
    ask-fits control.block m (key.Macro name) (λ a. calling_if control scope location tail (macro_of a) behind rest) refl (λ a.
    calling-if-fits control m scope location tail (macro_of a) behind rest later)

macro-fits : (control : Control) (m : Bool) (scope : Scope) (location : Location) (parameters : Option (List Name)) (next : Scope → Part) (rest : Course)
    → Next control.block next rest → Fits control.block (macro control scope location parameters next rest) (mark_of m)
macro-fits control m Source location parameters next rest later = later m Source
macro-fits control m (Expansion own) location parameters next rest later = later m (Expansion own)

-- ---- conditional assembly

skipping-fits : (b : Option Name) (m : Mark) (control : Control) (scope : Scope) (holds : Bool) (count : Option ℕ) (next : Scope → Part) (rest : Course)
    → ((there : Scope) → Fits b (next there rest) m) → Fits b (skipping_lines control scope holds count next rest) m
skipping-fits b m control scope true count next rest later = later scope
skipping-fits b m control scope false None next rest later = later scope
skipping-fits b m control scope false (Some count) next rest later =
    if-fits b m (nat_eq count 0) (next scope) (going_by control scope (SkipLines count) next) rest
    (later scope) (going-by-fits b m control scope (SkipLines count) next rest later)

counting-fits : (b : Option Name) (m : Mark) (control : Control) (scope : Scope) (location : Location) (test : Tested) (value : ValueNow) (next : Scope → Part) (rest : Course)
    → ((there : Scope) → Fits b (next there rest) m) → Fits b (counting control scope location test value next rest) m
counting-fits b m control scope location test value next rest later =
    skipping-fits b m control scope test.holds (line_count value)
    (λ there. flagging (joined (present_flags location) (joined test.flags (count_flags value (line_count value)))) there next) rest later

beginning-fits : (b : Option Name) (m : Mark) (control : Control) (scope : Scope) (holds : Bool) (ranges : List OpenRange) (next : Scope → Part) (rest : Course)
    → ((there : Scope) → Fits b (next there rest) m) → Fits b (beginning_range control scope holds ranges next rest) m
beginning-fits b m control scope true ranges next rest later = putting-fits b m scope (BeforeElse ∷ ranges) next rest later
beginning-fits b m control scope false ranges next rest later = going-by-fits b m control scope (SkipRange (record { nested = 0; may_resume = true })) next rest later

opening-fits : (b : Option Name) (m : Mark) (control : Control) (scope : Scope) (location : Location) (test : Tested) (ranges : List OpenRange) (next : Scope → Part) (rest : Course)
    → ((there : Scope) → Fits b (next there rest) m) → Fits b (opening control scope location test ranges next rest) m
opening-fits b m control scope location test ranges next rest later =
    if-fits b m (nat_le most_ranges (length ranges)) (flagging (record (test_flags location test) { structure = true }) scope next)
    (beginning_range control scope test.holds ranges (λ there. flagging (test_flags location test) there next)) rest (later scope)
    (beginning-fits b m control scope test.holds ranges (λ there. flagging (test_flags location test) there next) rest later)

hanging-fits : (control : Control) (m : Bool) (scope : Scope) (location : Location) (lines : Option Expression) (test : Tested) (next : Scope → Part) (rest : Course)
    → Next control.block next rest → Fits control.block (hanging control scope location lines test next rest) (mark_of m)
hanging-fits control m scope location None test next rest later =
    ranges-fit control.block m scope (λ ranges. opening control scope location test ranges next) rest (λ ranges.
    opening-fits control.block (mark_of m) control scope location test ranges next rest (later m))
hanging-fits control m scope location (Some lines) test next rest later =
    here-fits control m lines (λ value. counting control scope location test value next) rest (λ placed value.
    counting-fits control.block (mark_of placed) control scope location test value next rest (later placed))

if-compared-fits : (control : Control) (m : Bool) (scope : Scope) (location : Location) (test : ValueTest) (next : Scope → Part) (rest : Course)
    → Next control.block next rest → Fits control.block (if_compared control scope location test next rest) (mark_of m)
if-compared-fits control m scope location test next rest later =
    here-fits control m test.left (λ l. now_here control test.right (λ r. hanging control scope location test.lines (compared test.relation l r) next)) rest (λ placed l.
    here-fits control placed test.right (λ r. hanging control scope location test.lines (compared test.relation l r) next) rest (λ standing r.
    hanging-fits control standing scope location test.lines (compared test.relation l r) next rest later))

if-defined-fits : (control : Control) (m : Bool) (scope : Scope) (location : Location) (test : SymbolTest) (next : Scope → Part) (rest : Course)
    → Next control.block next rest → Fits control.block (if_defined control scope location test next rest) (mark_of m)
if-defined-fits control m scope location test next rest later =
    standing-fits control.block m test.symbol
    (λ standing. tell test.symbol before hanging control scope location test.lines (defined test.is_defined (has_value standing)) next) rest (λ standing.
    hanging-fits control m scope location test.lines (defined test.is_defined (has_value standing)) next rest later)

turned-fits : (b : Option Name) (m : Mark) (control : Control) (scope : Scope) (location : Location) (ranges : List OpenRange) (next : Scope → Part) (rest : Course)
    → ((there : Scope) → Fits b (next there rest) m) → Fits b (turned_round control scope location ranges next rest) m
turned-fits b m control scope location (BeforeElse ∷ ranges) next rest later =
    putting-fits b m scope ranges
    (λ within. going_by control within (SkipRange (record { nested = 0; may_resume = false })) (λ there. flagging (present_flags location) there next)) rest (λ within.
    going-by-fits b m control within (SkipRange (record { nested = 0; may_resume = false })) (λ there. flagging (present_flags location) there next) rest later)
turned-fits b m control scope location (BehindElse ∷ ranges) next rest later = later scope
turned-fits b m control scope location [] next rest later = later scope

closed-fits : (b : Option Name) (m : Mark) (scope : Scope) (location : Location) (ranges : List OpenRange) (next : Scope → Part) (rest : Course)
    → ((there : Scope) → Fits b (next there rest) m) → Fits b (closed scope location ranges next rest) m
closed-fits b m scope location [] next rest later = later scope
closed-fits b m scope location (range ∷ ranges) next rest later =
    putting-fits b m scope ranges (λ there. flagging (present_flags location) there next) rest later

else-fits : (b : Option Name) (m : Bool) (control : Control) (scope : Scope) (location : Location) (next : Scope → Part) (rest : Course)
    → ((there : Scope) → Fits b (next there rest) (mark_of m)) → Fits b (else_of control scope location next rest) (mark_of m)
else-fits b m control scope location next rest later =
    ranges-fit b m scope (λ ranges. turned_round control scope location ranges next) rest (λ ranges. turned-fits b (mark_of m) control scope location ranges next rest later)

endif-fits : (b : Option Name) (m : Bool) (scope : Scope) (location : Location) (next : Scope → Part) (rest : Course)
    → ((there : Scope) → Fits b (next there rest) (mark_of m)) → Fits b (endif_of scope location next rest) (mark_of m)
endif-fits b m scope location next rest later =
    ranges-fit b m scope (λ ranges. closed scope location ranges next) rest (λ ranges. closed-fits b (mark_of m) scope location ranges next rest later)

-- ---- DUP

repeating-fits : (b : Option Name) (m : Mark) (control : Control) (scope : Scope) (location : Location) (times : ValueNow) (extent : Extent) (next : Scope → Part) (rest : Course)
    → ((there : Scope) → Fits b (next there rest) m) → Fits b (repeating control scope location times extent next rest) m
repeating-fits b m control scope location times extent next rest later =
    going-by-fits b m control scope (KeepDup (record { times = times_in (plain_number times); extent = extent; kept = no_lines }))
    (λ there. flagging (joined (present_flags location) (times_flags times (plain_number times))) there next) rest later

repeating-lines-fits : (b : Option Name) (m : Mark) (control : Control) (scope : Scope) (location : Location) (times lines : ValueNow) (count : Option ℕ) (next : Scope → Part) (rest : Course)
    → ((there : Scope) → Fits b (next there rest) m) → Fits b (repeating_lines control scope location times lines count next rest) m
repeating-lines-fits b m control scope location times lines None next rest later = later scope
repeating-lines-fits b m control scope location times lines (Some count) next rest later = repeating-fits b m control scope location times (Counted count) next rest later

repeating-by-fits : (control : Control) (m : Bool) (scope : Scope) (location : Location) (times : ValueNow) (lines : Option Expression) (next : Scope → Part) (rest : Course)
    → Next control.block next rest → Fits control.block (repeating_by control scope location times lines next rest) (mark_of m)
repeating-by-fits control m scope location times None next rest later = repeating-fits control.block (mark_of m) control scope location times (ToEndd 0) next rest (later m)
repeating-by-fits control m scope location times (Some lines) next rest later =
    here-fits control m lines (λ value. repeating_lines control scope location times value (body_count value) next) rest (λ placed value.
    repeating-lines-fits control.block (mark_of placed) control scope location times value (body_count value) next rest (later placed))

dup-fits : (control : Control) (m : Bool) (scope : Scope) (location : Location) (repetition : Repetition) (next : Scope → Part) (rest : Course)
    → Next control.block next rest → Fits control.block (dup control scope location repetition next rest) (mark_of m)
dup-fits control m scope location repetition next rest later =
    here-fits control m repetition.count (λ times. repeating_by control scope location times repetition.lines next) rest (λ placed times.
    repeating-by-fits control placed scope location times repetition.lines next rest later)

-- ---- statements that are assembled

endm-fits : (b : Option Name) (m : Mark) (scope : Scope) (location : Location) (rest : Course) → Fits b rest m → Fits b (endm scope location rest) m
endm-fits b m Source location rest later = later
endm-fits b m (Expansion own) location rest later = later

all-obeyed-fits : (control : Control) (m : Bool) (scope : Scope) (location : Location) (stated : Pseudo) (next : Scope → Part) (rest : Course)
    → Next control.block next rest → Fits control.block (obeyed control scope location stated next rest) (mark_of m)
all-obeyed-fits control m scope location (row.Macro parameters) next rest later = macro-fits control m scope location (Some parameters) next rest later
all-obeyed-fits control m scope location row.Endm next rest later = endm-fits control.block (mark_of m) scope location (next scope rest) (later m scope)
all-obeyed-fits control m scope location (row.Compare test) next rest later = if-compared-fits control m scope location test next rest later
all-obeyed-fits control m scope location (row.If test) next rest later = if-defined-fits control m scope location test next rest later
all-obeyed-fits control m scope location row.Else next rest later = else-fits control.block m control scope location next rest (later m)
all-obeyed-fits control m scope location row.Endif next rest later = endif-fits control.block m scope location next rest (later m)
all-obeyed-fits control m scope location (row.Dup repetition) next rest later = dup-fits control m scope location repetition next rest later
all-obeyed-fits control m scope location row.Endd next rest later = later m scope
all-obeyed-fits control m scope location row.End next rest later = asked-place-fits control m (λ place. misplaced) (next scope rest) (λ place. later true scope)
all-obeyed-fits control m scope location (row.Ident name) next rest later = obeyed-fits control m location (row.Ident name) (next scope rest) (λ placed. later placed scope)
all-obeyed-fits control m scope location row.Abs next rest later = obeyed-fits control m location row.Abs (next scope rest) (λ placed. later placed scope)
all-obeyed-fits control m scope location row.Periph next rest later = obeyed-fits control m location row.Periph (next scope rest) (λ placed. later placed scope)
all-obeyed-fits control m scope location (row.Base radix) next rest later = obeyed-fits control m location (row.Base radix) (next scope rest) (λ placed. later placed scope)
all-obeyed-fits control m scope location (row.Equate terms) next rest later = obeyed-fits control m location (row.Equate terms) (next scope rest) (λ placed. later placed scope)
all-obeyed-fits control m scope location (row.Set terms) next rest later = obeyed-fits control m location (row.Set terms) (next scope rest) (λ placed. later placed scope)
all-obeyed-fits control m scope location (row.Org terms) next rest later = obeyed-fits control m location (row.Org terms) (next scope rest) (λ placed. later placed scope)
all-obeyed-fits control m scope location (row.Use block) next rest later = obeyed-fits control m location (row.Use block) (next scope rest) (λ placed. later placed scope)
all-obeyed-fits control m scope location (row.Bss terms) next rest later = obeyed-fits control m location (row.Bss terms) (next scope rest) (λ placed. later placed scope)
all-obeyed-fits control m scope location (row.Bssz terms) next rest later = obeyed-fits control m location (row.Bssz terms) (next scope rest) (λ placed. later placed scope)
all-obeyed-fits control m scope location (row.Con values) next rest later = obeyed-fits control m location (row.Con values) (next scope rest) (λ placed. later placed scope)
all-obeyed-fits control m scope location (row.Data numbers) next rest later = obeyed-fits control m location (row.Data numbers) (next scope rest) (λ placed. later placed scope)
all-obeyed-fits control m scope location (row.Vfd fields) next rest later = obeyed-fits control m location (row.Vfd fields) (next scope rest) (λ placed. later placed scope)
all-obeyed-fits control m scope location (row.Dis text) next rest later = obeyed-fits control m location (row.Dis text) (next scope rest) (λ placed. later placed scope)
all-obeyed-fits control m scope location (row.Local names) next rest later = obeyed-fits control m location (row.Local names) (next scope rest) (λ placed. later placed scope)
all-obeyed-fits control m scope location row.Listing next rest later = obeyed-fits control m location row.Listing (next scope rest) (λ placed. later placed scope)

all-unreadable-fits : (control : Control) (m : Bool) (scope : Scope) (location : Location) (named : Operation) (next : Scope → Part) (rest : Course)
    → Next control.block next rest → Fits control.block (unreadable control scope location named next rest) (mark_of m)
all-unreadable-fits control m scope location operation.Macro next rest later = macro-fits control m scope location None next rest later
all-unreadable-fits control m scope location operation.Ident next rest later = unreadable-fits control m location operation.Ident (next scope rest) (λ placed. later placed scope)
all-unreadable-fits control m scope location operation.Abs next rest later = unreadable-fits control m location operation.Abs (next scope rest) (λ placed. later placed scope)
all-unreadable-fits control m scope location operation.Periph next rest later = unreadable-fits control m location operation.Periph (next scope rest) (λ placed. later placed scope)
all-unreadable-fits control m scope location operation.Base next rest later = unreadable-fits control m location operation.Base (next scope rest) (λ placed. later placed scope)
all-unreadable-fits control m scope location operation.Equate next rest later = unreadable-fits control m location operation.Equate (next scope rest) (λ placed. later placed scope)
all-unreadable-fits control m scope location operation.Set next rest later = unreadable-fits control m location operation.Set (next scope rest) (λ placed. later placed scope)
all-unreadable-fits control m scope location operation.Org next rest later = unreadable-fits control m location operation.Org (next scope rest) (λ placed. later placed scope)
all-unreadable-fits control m scope location operation.Use next rest later = unreadable-fits control m location operation.Use (next scope rest) (λ placed. later placed scope)
all-unreadable-fits control m scope location operation.Bss next rest later = unreadable-fits control m location operation.Bss (next scope rest) (λ placed. later placed scope)
all-unreadable-fits control m scope location operation.Bssz next rest later = unreadable-fits control m location operation.Bssz (next scope rest) (λ placed. later placed scope)
all-unreadable-fits control m scope location operation.Con next rest later = unreadable-fits control m location operation.Con (next scope rest) (λ placed. later placed scope)
all-unreadable-fits control m scope location operation.Data next rest later = unreadable-fits control m location operation.Data (next scope rest) (λ placed. later placed scope)
all-unreadable-fits control m scope location operation.Vfd next rest later = unreadable-fits control m location operation.Vfd (next scope rest) (λ placed. later placed scope)
all-unreadable-fits control m scope location operation.Dis next rest later = unreadable-fits control m location operation.Dis (next scope rest) (λ placed. later placed scope)
all-unreadable-fits control m scope location (operation.Compare relation) next rest later = unreadable-fits control m location (operation.Compare relation) (next scope rest) (λ placed. later placed scope)
all-unreadable-fits control m scope location operation.If next rest later = unreadable-fits control m location operation.If (next scope rest) (λ placed. later placed scope)
all-unreadable-fits control m scope location operation.Else next rest later = unreadable-fits control m location operation.Else (next scope rest) (λ placed. later placed scope)
all-unreadable-fits control m scope location operation.Endif next rest later = unreadable-fits control m location operation.Endif (next scope rest) (λ placed. later placed scope)
all-unreadable-fits control m scope location operation.Dup next rest later = unreadable-fits control m location operation.Dup (next scope rest) (λ placed. later placed scope)
all-unreadable-fits control m scope location operation.Endd next rest later = unreadable-fits control m location operation.Endd (next scope rest) (λ placed. later placed scope)
all-unreadable-fits control m scope location operation.Endm next rest later = unreadable-fits control m location operation.Endm (next scope rest) (λ placed. later placed scope)
all-unreadable-fits control m scope location operation.End next rest later = unreadable-fits control m location operation.End (next scope rest) (λ placed. later placed scope)
all-unreadable-fits control m scope location operation.Local next rest later = unreadable-fits control m location operation.Local (next scope rest) (λ placed. later placed scope)
all-unreadable-fits control m scope location operation.Listing next rest later = unreadable-fits control m location operation.Listing (next scope rest) (λ placed. later placed scope)

stated-fits : (control : Control) (m : Bool) (scope : Scope) (location : Location) (tail : List ℕ) (reading : Reading) (behind : Behind) (rest : Course)
    → After control.block behind rest → Fits control.block (stated control scope location tail reading behind rest) (mark_of m)
stated-fits control m scope location tail Missing behind rest later = later m scope none_opened
stated-fits control m scope location tail (Unknown name) behind rest later = calling-named-fits control m scope location tail name behind rest later
stated-fits control m scope location tail (Stated row) behind rest later = all-obeyed-fits control m scope location row (opens_nothing behind) rest (λ placed there. later placed there none_opened)
stated-fits control m scope location tail (Unreadable operation) behind rest later =
    all-unreadable-fits control m scope location operation (opens_nothing behind) rest (λ placed there. later placed there none_opened)
stated-fits control m scope location tail (Instruction form) behind rest later = instruction-fits control m location form (behind scope none_opened rest) (later true scope none_opened)
stated-fits control m scope location tail (Peripheral form) behind rest later = peripheral-fits control m location form (behind scope none_opened rest) (later true scope none_opened)

assembled-fits : (control : Control) (m : Bool) (scope : Scope) (fields : LineFields) (behind : Behind) (rest : Course)
    → After control.block behind rest → Fits control.block (assembled control scope fields behind rest) (mark_of m)
assembled-fits control m scope CommentLine behind rest later = later m scope none_opened
assembled-fits control m scope ContinuedLine behind rest later = later m scope none_opened
assembled-fits control m scope (StatementLine statement) behind rest later =
    let reading = reading_in control.machine control.radix statement.operation statement.tail in
    let location = location_in statement.location in
    leaving-head-fits control.block (mark_of m) (stays_in_head reading) control (λ there. stated there scope location statement.tail reading behind) rest
    (stated-fits control m scope location statement.tail reading behind rest later)
    (stated-fits (in_body control) m scope location statement.tail reading behind rest later)

-- ---- statements that are not

changing-fits : (b : Option Name) (m : Mark) (control : Control) (scope : Scope) (mode going : Mode) (next : Scope → Part) (rest : Course)
    → ((there : Scope) → Fits b (next there rest) m) → Fits b (changing control scope mode going next rest) m
changing-fits b m control scope mode going next rest later =
    if-fits b m (eq-value.it going mode) (next scope) (going_by control scope going next) rest (later scope) (going-by-fits b m control scope going next rest later)

keeping-at-fits : (b : Option Name) (m : Mark) (count : Option ℕ) (scope : Scope) (text : List ℕ) (next : Scope → Part) (rest : Course)
    → ((there : Scope) → Fits b (next there rest) m) → Fits b (keeping_at count scope text next rest) m
keeping-at-fits b m None scope text next rest later = later scope
keeping-at-fits b m (Some count) scope text next rest later = keeping-fits b m scope count text next rest later

passing-fits : (b : Option Name) (m : Mark) (control : Control) (scope : Scope) (mode : Mode) (text : List ℕ) (going : Mode) (kept_at : Option ℕ) (next : Scope → Part) (rest : Course)
    → ((there : Scope) → Fits b (next there rest) m) → Fits b (passing control scope mode text going kept_at next rest) m
passing-fits b m control scope mode text going kept_at next rest later =
    keeping-at-fits b m kept_at scope text (λ there. changing control there mode going next) rest (λ there. changing-fits b m control there mode going next rest later)

resuming-fits : (b : Option Name) (m : Bool) (control : Control) (scope : Scope) (next : Scope → Part) (rest : Course)
    → ((there : Scope) → Fits b (next there rest) (mark_of m)) → Fits b (resuming control scope next rest) (mark_of m)
resuming-fits b m control scope next rest later =
    ranges-fit b m scope (λ ranges. putting_ranges scope (BehindElse ∷ ranges) (λ there. going_by control there Normal next)) rest (λ ranges.
    putting-fits b (mark_of m) scope (BehindElse ∷ ranges) (λ there. going_by control there Normal next) rest (λ there.
    going-by-fits b (mark_of m) control there Normal next rest later))

defining-macro-fits : (b : Option Name) (m : Bool) (control : Control) (scope : Scope) (name : Name) (body : MacroBody) (next : Scope → Part) (rest : Course)
    → ((there : Scope) → Fits b (next there rest) (mark_of m)) → Fits b (defining_macro control scope name body next rest) (mark_of m)
defining-macro-fits b m control scope name body next rest later =
    body-fits b m control scope body.kept.lines (λ lines there.
    putting (key.Macro name) (answer.Macro (macro_of_lines body.parameters lines)) before next there) rest (λ lines there. later there)

treated-fits : (b : Option Name) (m : Bool) (control : Control) (scope : Scope) (mode : Mode) (text : List ℕ) (treatment : Treatment) (behind : Behind) (rest : Course)
    → After b behind rest → Fits b (treated control scope mode text treatment behind rest) (mark_of m)
treated-fits b m control scope mode text (Passes going kept_at flags) behind rest later =
    passing-fits b (mark_of m) control scope mode text going kept_at (λ there. flagging flags there (opens_nothing behind)) rest (λ there. later m there none_opened)
treated-fits b m control scope mode text (Resumes location) behind rest later =
    resuming-fits b m control scope (λ there. flagging (present_flags location) there (opens_nothing behind)) rest (λ there. later m there none_opened)
treated-fits b m control scope mode text (Defines name body location) behind rest later =
    defining-macro-fits b m control scope name body (λ there. flagging (present_flags location) there (opens_nothing behind)) rest (λ there. later m there none_opened)
treated-fits b m control scope mode text (Opens body with_line flags) behind rest later =
    body-fits b m control scope body.kept.lines
    (λ lines there. flagged flags before behind there (plain (repeated body.times (lines ++ last_line with_line text)))) rest (λ lines there.
    later m there (plain (repeated body.times (lines ++ last_line with_line text))))

-- ---- each statement

in-mode-fits : (control : Control) (m : Bool) (scope : Scope) (text : List ℕ) (mode : Mode) (behind : Behind) (rest : Course)
    → After control.block behind rest → Fits control.block (in_mode control scope text mode behind rest) (mark_of m)
in-mode-fits control m scope text Normal behind rest later = assembled-fits control m scope (card_in text) behind rest later
in-mode-fits control m scope text (SkipLines count) behind rest later =
    treated-fits control.block m control scope (SkipLines count) text (skipped_line count) behind rest later
in-mode-fits control m scope text (SkipRange skip) behind rest later =
    treated-fits control.block m control scope (SkipRange skip) text (skipped_in_range skip (seen_in (card_in text))) behind rest later
in-mode-fits control m scope text (KeepMacro body) behind rest later =
    treated-fits control.block m control scope (KeepMacro body) text (kept_for_macro body (seen_in (card_in text))) behind rest later
in-mode-fits control m scope text (KeepDup body) behind rest later =
    treated-fits control.block m control scope (KeepDup body) text (kept_for_dup body body.extent (seen_in (card_in text))) behind rest later

before-end-fits : (control : Control) (m : Bool) (mode : Mode) (scope : Scope) (text : List ℕ) (location : Option Location) (behind : Behind) (rest : Course)
    → After control.block behind rest → Fits control.block (before_end control mode scope text location behind rest) (mark_of m)
before-end-fits control m mode scope text (Some location) behind rest later = end-fits control m mode location (behind scope none_opened rest) (later true scope none_opened)
before-end-fits control m mode scope text None behind rest later = in-mode-fits control m scope text (mode_in mode scope) behind rest later

behind-end-fits : (b : Option Name) (m : Mark) (fields : LineFields) (rest : Course) → Fits b rest m → Fits b (after_end fields rest) m
behind-end-fits b m CommentLine rest later = later
behind-end-fits b m ContinuedLine rest later = later
behind-end-fits b m (StatementLine statement) rest later = later

in-phase-fits : (control : Control) (m : Bool) (mode : Mode) (scope : Scope) (text : List ℕ) (phase : Phase) (behind : Behind) (rest : Course)
    → After control.block behind rest → Fits control.block (in_phase control mode scope text phase behind rest) (mark_of m)
in-phase-fits control m mode scope text (Head head) behind rest later = before-end-fits control m mode scope text (end_in scope (card_in text)) behind rest later
in-phase-fits control m mode scope text Body behind rest later = before-end-fits control m mode scope text (end_in scope (card_in text)) behind rest later
in-phase-fits control m mode scope text AfterEnd behind rest later =
    behind-end-fits control.block (mark_of m) (card_in text) (behind scope none_opened rest) (later m scope none_opened)

pub stands-where-it-asks : StandsWhereItAsks
stands-where-it-asks scope text state running nowhere =
    let a = answer_at state running key.Control in
    let control = control_of a in
    stands (in_phase control (mode_of a) scope text control.phase (λ later opened. nothing) stop) control.block state (with_ask state running key.Control) fresh
    (in-phase-fits control false (mode_of a) scope text control.phase (λ later opened. nothing) stop (λ placed there opened. stop-fits control.block placed))
    (asked-stand state running key.Control ∙ nowhere)
