-- Rows of what words ask.
use Rattle.std.proofs.Common.{◌≡◌, ℕ, true, false, List, [], ◌∷◌, Option, Some, None, refl, codes}
use Rattle.clap.specs.Words.{Text}
use Rattle.clap.proofs.OnLiterals.{clap_on_literals}
use Rattle.cps_claims.specs.declared.layout.OctalFormat.TheVariants.{Rows, Dump}
use Rattle.cps_claims.specs.declared.layout.ReadColumns.{ReadColumns}
use Rattle.cps_claims.specs.declared.layout.WordOffset.TheVariants.{Up, Down}
use Rattle.cps_compare.specs.declared.compare_format.CompareFormat.TheVariants.{Words, Own}
use Rattle.cps_compare.specs.declared.compare_options.CompareOptions.{CompareOptions}
use Rattle.cps_disassembly.specs.declared.request.Request.{Request}
use Rattle.cps_expr.specs.declared.machine.Machine.TheVariants.{Cp, Pp}
use Rattle.cps_list.specs.declared.part.Part.TheVariants.{Listing, Binary, Symbols, Flags, All}
use Rattle.cps_words.specs.Outputs.{Names}
use Rattle.cps_words.specs.Request.{answer_of, asks, refuses, request_of, tells}
use Rattle.cps_words.specs.Hints.{Hints}
use Rattle.cps_words.specs.Task.{batch, export, session, check, compare, disassemble, explain, server}

-- a call's words, after the program's name
abbrev call : List Text → List Text
call words = codes "compass" ∷ words

default_part : request_of (call (codes "batch" ∷ [])) ≡ Some (batch All)
unfolding clap_on_literals
default_part = refl

listing_part : request_of (call (codes "batch" ∷ codes "--part" ∷ codes "listing" ∷ [])) ≡ Some (batch Listing)
unfolding clap_on_literals
listing_part = refl

binary_part : request_of (call (codes "batch" ∷ codes "--part=binary" ∷ [])) ≡ Some (batch Binary)
unfolding clap_on_literals
binary_part = refl

symbols_part : request_of (call (codes "batch" ∷ codes "--part" ∷ codes "symbols" ∷ [])) ≡ Some (batch Symbols)
unfolding clap_on_literals
symbols_part = refl

flags_part : request_of (call (codes "batch" ∷ codes "--part" ∷ codes "flags" ∷ [])) ≡ Some (batch Flags)
unfolding clap_on_literals
flags_part = refl

all_part : request_of (call (codes "batch" ∷ codes "--part" ∷ codes "all" ∷ [])) ≡ Some (batch All)
unfolding clap_on_literals
all_part = refl

session_row : request_of (call (codes "session" ∷ [])) ≡ Some session
unfolding clap_on_literals
session_row = refl

no_command : request_of (call []) ≡ None
unfolding clap_on_literals
no_command = refl

other_command : request_of (call (codes "other" ∷ [])) ≡ None
unfolding clap_on_literals
other_command = refl

other_part : request_of (call (codes "batch" ∷ codes "--part" ∷ codes "other" ∷ [])) ≡ None
unfolding clap_on_literals
other_part = refl

missing_part : request_of (call (codes "batch" ∷ codes "--part" ∷ [])) ≡ None
unfolding clap_on_literals
missing_part = refl

file_row : answer_of (call (codes "batch" ∷ codes "deck.cps" ∷ [])) ≡ asks (batch All) (Some (codes "deck.cps"))
unfolding clap_on_literals
file_row = refl

part_of_file : answer_of (call (codes "batch" ∷ codes "deck.cps" ∷ codes "--part" ∷ codes "flags" ∷ [])) ≡ asks (batch Flags) (Some (codes "deck.cps"))
unfolding clap_on_literals
part_of_file = refl

standard_input : answer_of (call (codes "batch" ∷ codes "-" ∷ [])) ≡ asks (batch All) None
unfolding clap_on_literals
standard_input = refl

no_file : answer_of (call (codes "batch" ∷ [])) ≡ asks (batch All) None
unfolding clap_on_literals
no_file = refl

extra_word : answer_of (call (codes "batch" ∷ codes "deck.cps" ∷ codes "extra" ∷ [])) ≡ refuses
unfolding clap_on_literals
extra_word = refl

file_of_a_session : answer_of (call (codes "session" ∷ codes "deck.cps" ∷ [])) ≡ refuses
unfolding clap_on_literals
file_of_a_session = refl

asks_help : answer_of (call (codes "--help" ∷ [])) ≡ tells
unfolding clap_on_literals
asks_help = refl

asks_batch_help : answer_of (call (codes "batch" ∷ codes "-h" ∷ [])) ≡ tells
unfolding clap_on_literals
asks_batch_help = refl

asks_version : answer_of (call (codes "--version" ∷ [])) ≡ tells
unfolding clap_on_literals
asks_version = refl

no_help_request : request_of (call (codes "--help" ∷ [])) ≡ None
unfolding clap_on_literals
no_help_request = refl

help_of_the_program : answer_of (call (codes "help" ∷ [])) ≡ tells
unfolding clap_on_literals
help_of_the_program = refl

help_of_a_command : answer_of (call (codes "help" ∷ codes "check" ∷ [])) ≡ tells
unfolding clap_on_literals
help_of_a_command = refl

help_of_no_command : answer_of (call (codes "help" ∷ codes "list" ∷ [])) ≡ refuses
unfolding clap_on_literals
help_of_no_command = refl

-- ---- `batch` with files

abbrev no_file_of_a_text : Names
no_file_of_a_text = record { listing = None; binary = None; symbols = None; flags = None; page = None }

one_output : answer_of (call (codes "batch" ∷ codes "--listing" ∷ codes "d.lst" ∷ codes "deck.cps" ∷ []))
    ≡ asks (export (record no_file_of_a_text { listing = Some (codes "d.lst") }) None) (Some (codes "deck.cps"))
unfolding clap_on_literals
one_output = refl

five_outputs : answer_of (call (codes "batch" ∷ codes "--part" ∷ codes "flags" ∷ codes "--listing=l" ∷ codes "--binary=b" ∷ codes "--symbols=s"
    ∷ codes "--flags=f" ∷ codes "--page=p" ∷ []))
    ≡ asks (export (record { listing = Some (codes "l"); binary = Some (codes "b"); symbols = Some (codes "s"); flags = Some (codes "f"); page = Some (codes "p") })
    (Some Flags)) None
unfolding clap_on_literals
five_outputs = refl

page_over_the_source : answer_of (call (codes "batch" ∷ codes "--page" ∷ codes "deck.cps" ∷ codes "deck.cps" ∷ [])) ≡ refuses
unfolding clap_on_literals
page_over_the_source = refl

output_over_the_source : answer_of (call (codes "batch" ∷ codes "--binary" ∷ codes "deck.cps" ∷ codes "deck.cps" ∷ [])) ≡ refuses
unfolding clap_on_literals
output_over_the_source = refl

output_to_a_minus : answer_of (call (codes "batch" ∷ codes "--symbols" ∷ codes "-" ∷ [])) ≡ refuses
unfolding clap_on_literals
output_to_a_minus = refl

two_outputs_in_one : answer_of (call (codes "batch" ∷ codes "--listing" ∷ codes "x" ∷ codes "--flags" ∷ codes "x" ∷ [])) ≡ refuses
unfolding clap_on_literals
two_outputs_in_one = refl

-- what is written to a device takes the place of nothing
two_outputs_to_a_device : answer_of (call (codes "batch" ∷ codes "--listing" ∷ codes "/dev/stderr" ∷ codes "--flags" ∷ codes "/dev/stderr" ∷ []))
    ≡ asks (export (record no_file_of_a_text { listing = Some (codes "/dev/stderr"); flags = Some (codes "/dev/stderr") }) None) None
unfolding clap_on_literals
two_outputs_to_a_device = refl

output_of_a_check : answer_of (call (codes "check" ∷ codes "--flags" ∷ codes "x" ∷ [])) ≡ refuses
unfolding clap_on_literals
output_of_a_check = refl

-- ---- `check`

check_row : answer_of (call (codes "check" ∷ codes "deck.cps" ∷ [])) ≡ asks (check false) (Some (codes "deck.cps"))
unfolding clap_on_literals
check_row = refl

check_of_standard_input : answer_of (call (codes "check" ∷ [])) ≡ asks (check false) None
unfolding clap_on_literals
check_of_standard_input = refl

check_of_a_minus : answer_of (call (codes "check" ∷ codes "-" ∷ [])) ≡ asks (check false) None
unfolding clap_on_literals
check_of_a_minus = refl

part_of_a_check : answer_of (call (codes "check" ∷ codes "--part" ∷ codes "flags" ∷ [])) ≡ refuses
unfolding clap_on_literals
part_of_a_check = refl

two_files_to_check : answer_of (call (codes "check" ∷ codes "deck.cps" ∷ codes "extra" ∷ [])) ≡ refuses
unfolding clap_on_literals
two_files_to_check = refl

check_help : answer_of (call (codes "check" ∷ codes "--help" ∷ [])) ≡ tells
unfolding clap_on_literals
check_help = refl

check_of_errors : answer_of (call (codes "check" ∷ codes "--errors" ∷ codes "deck.cps" ∷ [])) ≡ asks (check true) (Some (codes "deck.cps"))
unfolding clap_on_literals
check_of_errors = refl

errors_behind_a_file : answer_of (call (codes "check" ∷ codes "deck.cps" ∷ codes "--errors" ∷ [])) ≡ asks (check true) (Some (codes "deck.cps"))
unfolding clap_on_literals
errors_behind_a_file = refl

errors_with_a_value : answer_of (call (codes "check" ∷ codes "--errors=all" ∷ [])) ≡ refuses
unfolding clap_on_literals
errors_with_a_value = refl

errors_of_a_batch : answer_of (call (codes "batch" ∷ codes "--errors" ∷ [])) ≡ refuses
unfolding clap_on_literals
errors_of_a_batch = refl

-- ---- `compare`

abbrev default_options : CompareOptions
default_options = record { format = Words Rows; columns = None; offset = Up 0; from = None; to = None; whole = false; all = false }

abbrev columns_of : ℕ → ℕ → Option ReadColumns
columns_of first last = Some (record { first = first; last = last })

compare_row : answer_of (call (codes "compare" ∷ codes "old.oct" ∷ codes "deck.cps" ∷ []))
    ≡ asks (compare (Some (codes "old.oct")) default_options) (Some (codes "deck.cps"))
unfolding clap_on_literals
compare_row = refl

compare_of_standard_input : answer_of (call (codes "compare" ∷ codes "old.oct" ∷ [])) ≡ asks (compare (Some (codes "old.oct")) default_options) None
unfolding clap_on_literals
compare_of_standard_input = refl

octal_of_standard_input : answer_of (call (codes "compare" ∷ codes "-" ∷ codes "deck.cps" ∷ [])) ≡ asks (compare None default_options) (Some (codes "deck.cps"))
unfolding clap_on_literals
octal_of_standard_input = refl

twice_standard_input : answer_of (call (codes "compare" ∷ codes "-" ∷ [])) ≡ refuses
unfolding clap_on_literals
twice_standard_input = refl

twice_a_minus : answer_of (call (codes "compare" ∷ codes "-" ∷ codes "-" ∷ [])) ≡ refuses
unfolding clap_on_literals
twice_a_minus = refl

no_octal : answer_of (call (codes "compare" ∷ [])) ≡ refuses
unfolding clap_on_literals
no_octal = refl

limits_row : answer_of (call (codes "compare" ∷ codes "--from" ∷ codes "100" ∷ codes "--to=777777" ∷ codes "--columns" ∷ codes "10-36" ∷ codes "old.oct" ∷ []))
    ≡ asks (compare (Some (codes "old.oct")) (record default_options { from = Some 64; to = Some 262143; columns = columns_of 10 36 })) None
unfolding clap_on_literals
limits_row = refl

falling_addresses : answer_of (call (codes "compare" ∷ codes "--from" ∷ codes "1001" ∷ codes "--to" ∷ codes "1000" ∷ codes "old.oct" ∷ [])) ≡ refuses
unfolding clap_on_literals
falling_addresses = refl

one_address : answer_of (call (codes "compare" ∷ codes "--to=1000" ∷ codes "--from=1000" ∷ codes "old.oct" ∷ []))
    ≡ asks (compare (Some (codes "old.oct")) (record default_options { from = Some 512; to = Some 512 })) None
unfolding clap_on_literals
one_address = refl

one_column : answer_of (call (codes "compare" ∷ codes "old.oct" ∷ codes "--columns" ∷ codes "7" ∷ []))
    ≡ asks (compare (Some (codes "old.oct")) (record default_options { columns = columns_of 7 7 })) None
unfolding clap_on_literals
one_column = refl

no_octal_digit : answer_of (call (codes "compare" ∷ codes "--from" ∷ codes "8" ∷ codes "old.oct" ∷ [])) ≡ refuses
unfolding clap_on_literals
no_octal_digit = refl

seven_digits : answer_of (call (codes "compare" ∷ codes "--to" ∷ codes "0000001" ∷ codes "old.oct" ∷ [])) ≡ refuses
unfolding clap_on_literals
seven_digits = refl

plus_of_an_address : answer_of (call (codes "compare" ∷ codes "--to" ∷ codes "+1" ∷ codes "old.oct" ∷ [])) ≡ refuses
unfolding clap_on_literals
plus_of_an_address = refl

empty_address : answer_of (call (codes "compare" ∷ codes "--to=" ∷ codes "old.oct" ∷ [])) ≡ refuses
unfolding clap_on_literals
empty_address = refl

falling_columns : answer_of (call (codes "compare" ∷ codes "--columns" ∷ codes "36-10" ∷ codes "old.oct" ∷ [])) ≡ refuses
unfolding clap_on_literals
falling_columns = refl

column_nought : answer_of (call (codes "compare" ∷ codes "--columns" ∷ codes "0-10" ∷ codes "old.oct" ∷ [])) ≡ refuses
unfolding clap_on_literals
column_nought = refl

no_last_column : answer_of (call (codes "compare" ∷ codes "--columns" ∷ codes "10-" ∷ codes "old.oct" ∷ [])) ≡ refuses
unfolding clap_on_literals
no_last_column = refl

three_columns : answer_of (call (codes "compare" ∷ codes "--columns" ∷ codes "1-2-3" ∷ codes "old.oct" ∷ [])) ≡ refuses
unfolding clap_on_literals
three_columns = refl

six_digits_of_a_column : answer_of (call (codes "compare" ∷ codes "--columns" ∷ codes "000001" ∷ codes "old.oct" ∷ [])) ≡ refuses
unfolding clap_on_literals
six_digits_of_a_column = refl

row_format : answer_of (call (codes "compare" ∷ codes "--format" ∷ codes "rows" ∷ codes "old.oct" ∷ [])) ≡ asks (compare (Some (codes "old.oct")) default_options) None
unfolding clap_on_literals
row_format = refl

dump_format : answer_of (call (codes "compare" ∷ codes "--format=dump" ∷ codes "old.oct" ∷ [])) ≡ asks (compare (Some (codes "old.oct")) (record default_options { format = Words Dump })) None
unfolding clap_on_literals
dump_format = refl

own_format : answer_of (call (codes "compare" ∷ codes "--format" ∷ codes "own" ∷ codes "old.oct" ∷ [])) ≡ asks (compare (Some (codes "old.oct")) (record default_options { format = Own })) None
unfolding clap_on_literals
own_format = refl

other_format : answer_of (call (codes "compare" ∷ codes "--format" ∷ codes "octal" ∷ codes "old.oct" ∷ [])) ≡ refuses
unfolding clap_on_literals
other_format = refl

missing_format : answer_of (call (codes "compare" ∷ codes "old.oct" ∷ codes "--format" ∷ [])) ≡ refuses
unfolding clap_on_literals
missing_format = refl

offset_up : answer_of (call (codes "compare" ∷ codes "--offset" ∷ codes "4000" ∷ codes "old.oct" ∷ [])) ≡ asks (compare (Some (codes "old.oct")) (record default_options { offset = Up 2048 })) None
unfolding clap_on_literals
offset_up = refl

offset_behind_a_plus : answer_of (call (codes "compare" ∷ codes "--offset" ∷ codes "+20" ∷ codes "old.oct" ∷ [])) ≡ asks (compare (Some (codes "old.oct")) (record default_options { offset = Up 16 })) None
unfolding clap_on_literals
offset_behind_a_plus = refl

offset_down : answer_of (call (codes "compare" ∷ codes "--offset=-4000" ∷ codes "old.oct" ∷ [])) ≡ asks (compare (Some (codes "old.oct")) (record default_options { offset = Down 2048 })) None
unfolding clap_on_literals
offset_down = refl

-- a minus begins an option where it begins a word
parted_offset : answer_of (call (codes "compare" ∷ codes "--offset" ∷ codes "-4000" ∷ codes "old.oct" ∷ [])) ≡ refuses
unfolding clap_on_literals
parted_offset = refl

empty_offset : answer_of (call (codes "compare" ∷ codes "--offset=" ∷ codes "old.oct" ∷ [])) ≡ refuses
unfolding clap_on_literals
empty_offset = refl

sign_of_no_offset : answer_of (call (codes "compare" ∷ codes "--offset=-" ∷ codes "old.oct" ∷ [])) ≡ refuses
unfolding clap_on_literals
sign_of_no_offset = refl

offset_behind_two_signs : answer_of (call (codes "compare" ∷ codes "--offset=+-1" ∷ codes "old.oct" ∷ [])) ≡ refuses
unfolding clap_on_literals
offset_behind_two_signs = refl

offset_of_seven_digits : answer_of (call (codes "compare" ∷ codes "--offset=-0004000" ∷ codes "old.oct" ∷ [])) ≡ refuses
unfolding clap_on_literals
offset_of_seven_digits = refl

offset_that_is_not_octal : answer_of (call (codes "compare" ∷ codes "--offset" ∷ codes "80" ∷ codes "old.oct" ∷ [])) ≡ refuses
unfolding clap_on_literals
offset_that_is_not_octal = refl

whole_words : answer_of (call (codes "compare" ∷ codes "--whole" ∷ codes "old.oct" ∷ [])) ≡ asks (compare (Some (codes "old.oct")) (record default_options { whole = true })) None
unfolding clap_on_literals
whole_words = refl

all_told : answer_of (call (codes "compare" ∷ codes "old.oct" ∷ codes "--all" ∷ [])) ≡ asks (compare (Some (codes "old.oct")) (record default_options { all = true })) None
unfolding clap_on_literals
all_told = refl

value_of_whole : answer_of (call (codes "compare" ∷ codes "--whole=true" ∷ codes "old.oct" ∷ [])) ≡ refuses
unfolding clap_on_literals
value_of_whole = refl

all_twice : answer_of (call (codes "compare" ∷ codes "--all" ∷ codes "--all" ∷ codes "old.oct" ∷ [])) ≡ refuses
unfolding clap_on_literals
all_twice = refl

-- ---- `session --source`

session_of_a_source : answer_of (call (codes "session" ∷ codes "--source" ∷ codes "deck.cps" ∷ [])) ≡ asks session (Some (codes "deck.cps"))
unfolding clap_on_literals
session_of_a_source = refl

session_of_no_line : answer_of (call (codes "session" ∷ [])) ≡ asks session None
unfolding clap_on_literals
session_of_no_line = refl

session_of_standard_input : answer_of (call (codes "session" ∷ codes "--source" ∷ codes "-" ∷ [])) ≡ refuses
unfolding clap_on_literals
session_of_standard_input = refl

source_without_a_file : answer_of (call (codes "session" ∷ codes "--source" ∷ [])) ≡ refuses
unfolding clap_on_literals
source_without_a_file = refl

source_of_a_batch : answer_of (call (codes "batch" ∷ codes "--source" ∷ codes "deck.cps" ∷ [])) ≡ refuses
unfolding clap_on_literals
source_of_a_batch = refl

-- ---- `disassemble`

abbrev all_words : Request
all_words = record { machine = None; format = Rows; columns = None; from = None; to = None }

abbrev no_hints : Hints
no_hints = record { entries = None; code_at = None; data_at = None; names = None; ident = None; is_bare = false }

disassemble_row : answer_of (call (codes "disassemble" ∷ codes "old.oct" ∷ [])) ≡ asks (disassemble all_words no_hints) (Some (codes "old.oct"))
unfolding clap_on_literals
disassemble_row = refl

disassemble_standard_input : answer_of (call (codes "disassemble" ∷ [])) ≡ asks (disassemble all_words no_hints) None
unfolding clap_on_literals
disassemble_standard_input = refl

disassemble_a_minus : answer_of (call (codes "disassemble" ∷ codes "-" ∷ [])) ≡ asks (disassemble all_words no_hints) None
unfolding clap_on_literals
disassemble_a_minus = refl

central_words : answer_of (call (codes "disassemble" ∷ codes "--central" ∷ codes "old.oct" ∷ []))
    ≡ asks (disassemble (record all_words { machine = Some Cp }) no_hints) (Some (codes "old.oct"))
unfolding clap_on_literals
central_words = refl

peripheral_words : answer_of (call (codes "disassemble" ∷ codes "old.oct" ∷ codes "--peripheral" ∷ []))
    ≡ asks (disassemble (record all_words { machine = Some Pp }) no_hints) (Some (codes "old.oct"))
unfolding clap_on_literals
peripheral_words = refl

words_of_both_machines : answer_of (call (codes "disassemble" ∷ codes "--central" ∷ codes "--peripheral" ∷ codes "old.oct" ∷ [])) ≡ refuses
unfolding clap_on_literals
words_of_both_machines = refl

central_words_twice : answer_of (call (codes "disassemble" ∷ codes "--central" ∷ codes "--central" ∷ codes "old.oct" ∷ [])) ≡ refuses
unfolding clap_on_literals
central_words_twice = refl

words_between : answer_of (call (codes "disassemble" ∷ codes "--from" ∷ codes "100" ∷ codes "--to=177" ∷ codes "old.oct" ∷ []))
    ≡ asks (disassemble (record all_words { from = Some 64; to = Some 127 }) no_hints) (Some (codes "old.oct"))
unfolding clap_on_literals
words_between = refl

words_at_one_address : answer_of (call (codes "disassemble" ∷ codes "--from" ∷ codes "100" ∷ codes "--to" ∷ codes "100" ∷ []))
    ≡ asks (disassemble (record all_words { from = Some 64; to = Some 64 }) no_hints) None
unfolding clap_on_literals
words_at_one_address = refl

words_between_falling : answer_of (call (codes "disassemble" ∷ codes "--from" ∷ codes "101" ∷ codes "--to" ∷ codes "100" ∷ codes "old.oct" ∷ [])) ≡ refuses
unfolding clap_on_literals
words_between_falling = refl

words_from_no_octal : answer_of (call (codes "disassemble" ∷ codes "--from" ∷ codes "8" ∷ codes "old.oct" ∷ [])) ≡ refuses
unfolding clap_on_literals
words_from_no_octal = refl

words_in_columns : answer_of (call (codes "disassemble" ∷ codes "--columns" ∷ codes "10-36" ∷ codes "old.oct" ∷ []))
    ≡ asks (disassemble (record all_words { columns = columns_of 10 36 }) no_hints) (Some (codes "old.oct"))
unfolding clap_on_literals
words_in_columns = refl

words_in_no_columns : answer_of (call (codes "disassemble" ∷ codes "--columns" ∷ codes "36-10" ∷ codes "old.oct" ∷ [])) ≡ refuses
unfolding clap_on_literals
words_in_no_columns = refl

words_of_a_dump : answer_of (call (codes "disassemble" ∷ codes "--format" ∷ codes "dump" ∷ codes "old.oct" ∷ []))
    ≡ asks (disassemble (record all_words { format = Dump }) no_hints) (Some (codes "old.oct"))
unfolding clap_on_literals
words_of_a_dump = refl

words_of_rows : answer_of (call (codes "disassemble" ∷ codes "--format=rows" ∷ [])) ≡ asks (disassemble all_words no_hints) None
unfolding clap_on_literals
words_of_rows = refl

words_of_the_own_listing : answer_of (call (codes "disassemble" ∷ codes "--format" ∷ codes "own" ∷ codes "old.oct" ∷ [])) ≡ refuses
unfolding clap_on_literals
words_of_the_own_listing = refl

words_of_two_texts : answer_of (call (codes "disassemble" ∷ codes "old.oct" ∷ codes "new.oct" ∷ [])) ≡ refuses
unfolding clap_on_literals
words_of_two_texts = refl

offset_of_a_disassembly : answer_of (call (codes "disassemble" ∷ codes "--offset" ∷ codes "10" ∷ codes "old.oct" ∷ [])) ≡ refuses
unfolding clap_on_literals
offset_of_a_disassembly = refl

words_that_are_code :
    answer_of (call (codes "disassemble" ∷ codes "--entry" ∷ codes "100,2031" ∷ codes "--code=100-177" ∷ codes "--data" ∷ codes "200-277,300" ∷ []))
    ≡ asks (disassemble all_words (record no_hints { entries = Some (codes "100,2031"); code_at = Some (codes "100-177"); data_at = Some (codes "200-277,300") }))
    None
unfolding clap_on_literals
words_that_are_code = refl

words_with_names :
    answer_of (call (codes "disassemble" ∷ codes "--names" ∷ codes "old.sym" ∷ codes "--ident" ∷ codes "loader" ∷ codes "--bare" ∷ codes "old.oct" ∷ []))
    ≡ asks (disassemble all_words (record no_hints { names = Some (codes "old.sym"); ident = Some (codes "loader"); is_bare = true })) (Some (codes "old.oct"))
unfolding clap_on_literals
words_with_names = refl

entry_at_no_address : answer_of (call (codes "disassemble" ∷ codes "--entry" ∷ codes "100," ∷ [])) ≡ refuses
unfolding clap_on_literals
entry_at_no_address = refl

entry_at_a_range : answer_of (call (codes "disassemble" ∷ codes "--entry" ∷ codes "100-101" ∷ [])) ≡ refuses
unfolding clap_on_literals
entry_at_a_range = refl

code_in_a_falling_range : answer_of (call (codes "disassemble" ∷ codes "--code" ∷ codes "177-100" ∷ [])) ≡ refuses
unfolding clap_on_literals
code_in_a_falling_range = refl

data_at_no_octal : answer_of (call (codes "disassemble" ∷ codes "--data" ∷ codes "200,8" ∷ [])) ≡ refuses
unfolding clap_on_literals
data_at_no_octal = refl

names_of_standard_input : answer_of (call (codes "disassemble" ∷ codes "--names" ∷ codes "-" ∷ [])) ≡ refuses
unfolding clap_on_literals
names_of_standard_input = refl

ident_of_nine_letters : answer_of (call (codes "disassemble" ∷ codes "--ident" ∷ codes "ABCDEFGHI" ∷ [])) ≡ refuses
unfolding clap_on_literals
ident_of_nine_letters = refl

ident_of_a_register : answer_of (call (codes "disassemble" ∷ codes "--ident" ∷ codes "X1" ∷ [])) ≡ refuses
unfolding clap_on_literals
ident_of_a_register = refl

disassemble_help : answer_of (call (codes "disassemble" ∷ codes "--help" ∷ [])) ≡ tells
unfolding clap_on_literals
disassemble_help = refl

help_of_a_disassembly : answer_of (call (codes "help" ∷ codes "disassemble" ∷ [])) ≡ tells
unfolding clap_on_literals
help_of_a_disassembly = refl

-- ---- `explain`

explain_row : answer_of (call (codes "explain" ∷ codes "VFD" ∷ [])) ≡ asks (explain (codes "VFD")) None
unfolding clap_on_literals
explain_row = refl

explain_a_sign : answer_of (call (codes "explain" ∷ codes "=" ∷ [])) ≡ asks (explain (codes "=")) None
unfolding clap_on_literals
explain_a_sign = refl

explain_nothing : answer_of (call (codes "explain" ∷ [])) ≡ refuses
unfolding clap_on_literals
explain_nothing = refl

explain_two : answer_of (call (codes "explain" ∷ codes "A" ∷ codes "B" ∷ [])) ≡ refuses
unfolding clap_on_literals
explain_two = refl

explain_help : answer_of (call (codes "explain" ∷ codes "--help" ∷ [])) ≡ tells
unfolding clap_on_literals
explain_help = refl

-- ---- `server`

server_row : answer_of (call (codes "server" ∷ [])) ≡ asks server None
unfolding clap_on_literals
server_row = refl

server_over_standard_input : answer_of (call (codes "server" ∷ codes "--stdio" ∷ [])) ≡ asks server None
unfolding clap_on_literals
server_over_standard_input = refl

value_of_a_flag : answer_of (call (codes "server" ∷ codes "--stdio=true" ∷ [])) ≡ refuses
unfolding clap_on_literals
value_of_a_flag = refl

flag_given_twice : answer_of (call (codes "server" ∷ codes "--stdio" ∷ codes "--stdio" ∷ [])) ≡ refuses
unfolding clap_on_literals
flag_given_twice = refl

file_of_a_server : answer_of (call (codes "server" ∷ codes "deck.cps" ∷ [])) ≡ refuses
unfolding clap_on_literals
file_of_a_server = refl

flag_of_a_session : answer_of (call (codes "session" ∷ codes "--stdio" ∷ [])) ≡ refuses
unfolding clap_on_literals
flag_of_a_session = refl

server_help : answer_of (call (codes "server" ∷ codes "--help" ∷ [])) ≡ tells
unfolding clap_on_literals
server_help = refl

help_of_the_server : answer_of (call (codes "help" ∷ codes "server" ∷ [])) ≡ tells
unfolding clap_on_literals
help_of_the_server = refl
