-- What the values of options and operands name. Our own.
use Prim.Native.Char.{code}
use Rattle.std.specs.Prelude.{ℕ, Bool, true, false, not, ◌==◌, ◌&&◌, ◌||◌, nat_eq, nat_le, nat_lt, List, [], ◌∷◌, length, Option, Some, None, is_none, if◌then◌else◌, codes, bytes_eq, option_map, unwrap_or}
use Rattle.std.specs.List.{after_first, before_first, list_all, list_any, position_or_len, starts_with}
use Rattle.std.specs.Char.{is_digit}
use Rattle.std.specs.Str.Parse.{digits_value}
use Rattle.clap.specs.Words.{Row, Text, first_of}
use Rattle.cps_claims.specs.declared.layout.OctalFormat.{OctalFormat}
use Rattle.cps_claims.specs.declared.layout.OctalFormat.TheVariants.{Rows, Dump}
use Rattle.cps_claims.specs.declared.layout.ReadColumns.{ReadColumns}
use Rattle.cps_claims.specs.declared.layout.WordOffset.{WordOffset}
use Rattle.cps_claims.specs.declared.layout.WordOffset.TheVariants.{Up, Down}
use Rattle.cps_compare.specs.declared.compare_format.CompareFormat.{CompareFormat}
use Rattle.cps_compare.specs.declared.compare_format.CompareFormat.TheVariants.{Words, Own}
use Rattle.cps_compare.specs.declared.compare_options.CompareOptions.{CompareOptions}
use Rattle.cps_disassembly.specs.declared.request.Request.{Request}
use Rattle.cps_expr.specs.declared.machine.Machine.{Machine}
use Rattle.cps_expr.specs.declared.machine.Machine.TheVariants.{Cp, Pp}
use Rattle.cps_list.specs.declared.part.Part.{Part}
use Rattle.cps_list.specs.declared.part.Part.TheVariants.{Listing, Binary, Symbols, Flags, All}
use Rattle.cps_words.specs.Outputs.{Names}

-- the part that a word names
abbrev pub part_named : Text → Option Part
part_named word = if bytes_eq word (codes "listing") then Some Listing
    else if bytes_eq word (codes "binary") then Some Binary
    else if bytes_eq word (codes "symbols") then Some Symbols
    else if bytes_eq word (codes "flags") then Some Flags
    else if bytes_eq word (codes "all") then Some All
    else None

-- the file that a word names: standard input, where it is `-`
abbrev pub file_named : Option Text → Option Text
file_named None = None
file_named (Some word) = if bytes_eq word (codes "-") then None else Some word

-- the file that is named, None where standard input is
abbrev pub file_in : List Row → Option Text
file_in rows = file_named (first_of (codes "file") rows)

-- ---- files that texts are wanted in

-- the names that the options give
abbrev pub names_in : List Row → Names
names_in rows = record {
  listing = first_of (codes "listing") rows;
  binary = first_of (codes "binary") rows;
  symbols = first_of (codes "symbols") rows;
  flags = first_of (codes "flags") rows;
  page = first_of (codes "page") rows;
}

-- no text is wanted in a file, and no page
abbrev pub wants_no_file : Names → Bool
wants_no_file names =
    is_none names.listing && (is_none names.binary && (is_none names.symbols && (is_none names.flags && is_none names.page)))

abbrev pub is_name : Text → Option Text → Bool
is_name name None = false
is_name name (Some other) = bytes_eq name other

-- a name is that of a device, as `/dev/null`, which may be read and written under one name
abbrev pub is_device : Text → Bool
is_device name = starts_with nat_eq name (codes "/dev/")

-- no two of the names that are given are the same, but for those of devices
abbrev pub are_distinct : List (Option Text) → Bool
are_distinct [] = true
are_distinct (None ∷ names) = are_distinct names
are_distinct (Some name ∷ names) = (is_device name || not (list_any (is_name name) names)) && are_distinct names

-- A text goes neither to standard output, nor over the source, nor where another text goes. This is what the words show; which of them lead to one
-- file the files of the call tell.
abbrev pub are_apart : Option Text → Names → Bool
are_apart source names =
    are_distinct (Some (codes "-") ∷ source ∷ names.listing ∷ names.binary ∷ names.symbols ∷ names.flags ∷ names.page ∷ [])

-- ---- what is explained, or has a help

-- a word is the name of a command
abbrev pub is_command : Text → Bool
is_command word = list_any (bytes_eq word)
    (codes "batch" ∷ codes "session" ∷ codes "check" ∷ codes "compare" ∷ codes "disassemble" ∷ codes "explain" ∷ codes "server"
    ∷ codes "help" ∷ [])

-- the word that is to be explained
abbrev pub word_explained : List Row → Text
word_explained rows = unwrap_or (first_of (codes "word") rows) []

-- ---- options that may be left out

-- what an option names, which is nothing where it is left out; None as a whole where its value names nothing
abbrev pub value_from : {X : Type 0} → (Text → Option X) → Option Text → Option (Option X)
value_from named None = Some None
value_from named (Some word) = option_map (λ value. Some value) (named word)

-- the part that is named
abbrev pub part_in : List Row → Option (Option Part)
part_in rows = value_from part_named (first_of (codes "part") rows)

-- ---- flags

-- a flag that stands has the word `true`
abbrev pub is_true : Option Text → Bool
is_true None = false
is_true (Some word) = bytes_eq word (codes "true")

abbrev pub has_flag : Text → List Row → Bool
has_flag name rows = is_true (first_of name rows)

-- ---- what is compared

-- the octal text, None where standard input is
abbrev pub octal_in : List Row → Option Text
octal_in rows = file_named (first_of (codes "octal") rows)

-- the number that a word writes in digits of a radix, of which it may have so many
abbrev pub number_named : ℕ → ℕ → Text → Option ℕ
number_named radix most word =
    if nat_lt 0 (length word) && (nat_le (length word) most && list_all (λ digit. is_digit digit radix) word)
    then Some (digits_value radix word) else None

-- an address: 1 to 6 octal digits
abbrev pub address_named : Text → Option ℕ
address_named word = number_named 8 6 word

-- how rows are read, by its name
abbrev pub format_named : Text → Option CompareFormat
format_named word = if bytes_eq word (codes "rows") then Some (Words Rows)
    else if bytes_eq word (codes "dump") then Some (Words Dump)
    else if bytes_eq word (codes "own") then Some Own
    else None

-- how far addresses are moved: 1 to 6 octal digits, taken away where a minus stands before them; a plus may stand there too
abbrev pub offset_named : Text → Option WordOffset
offset_named [] = None
offset_named (sign ∷ digits) =
    if sign == code "-" then option_map (λ count. Down count) (address_named digits)
    else if sign == code "+" then option_map (λ count. Up count) (address_named digits)
    else option_map (λ count. Up count) (address_named (sign ∷ digits))

-- a column: 1 to 5 decimal digits
abbrev pub column_named : Text → Option ℕ
column_named word = number_named 10 5 word

-- columns count from 1, and the first is not behind the last
abbrev pub columns_between : Option ℕ → Option ℕ → Option ReadColumns
columns_between (Some first) (Some last) = if nat_le 1 first && nat_le first last then Some (record { first = first; last = last }) else None
columns_between _ _ = None

abbrev pub is_minus : ℕ → Bool
is_minus byte = byte == code "-"

-- what stands before and behind the first minus of a word, None where it has none
abbrev pub halves_of : Text → Option (Text × Text)
halves_of word = if nat_lt (position_or_len is_minus word) (length word) then Some (before_first is_minus word, after_first is_minus word) else None

-- one column alone is the first and the last
abbrev pub columns_from : Text → Option (Text × Text) → Option ReadColumns
columns_from word None = columns_between (column_named word) (column_named word)
columns_from word (Some halves) = columns_between (column_named halves.0) (column_named halves.1)

-- the columns that a word names: two with a minus between them, or one
abbrev pub columns_named : Text → Option ReadColumns
columns_named word = columns_from word (halves_of word)

-- the first address isn't above the last, where both are named
abbrev pub are_rising : Option ℕ → Option ℕ → Bool
are_rising (Some from) (Some to) = nat_le from to
are_rising _ _ = true

-- this program's own listing has its own columns
abbrev pub may_cut : CompareFormat → Option ReadColumns → Bool
may_cut Own (Some columns) = false
may_cut _ _ = true

-- what is asked by a format, columns, an offset, and a first and a last address, each of which may be left out, and by two flags
abbrev pub options_from : Option (Option CompareFormat) → Option (Option ReadColumns) → Option (Option WordOffset) → Option (Option ℕ) → Option (Option ℕ)
    → Bool → Bool → Option CompareOptions
options_from (Some format) (Some columns) (Some offset) (Some from) (Some to) whole all =
    let asked = unwrap_or format (Words Rows) in
    if may_cut asked columns && are_rising from to then Some (record {
      format = asked;
      columns = columns;
      offset = unwrap_or offset (Up 0);
      from = from;
      to = to;
      whole = whole;
      all = all;
    }) else None
options_from _ _ _ _ _ _ _ = None

-- what the options ask, None where one of their values is wrong, the first address above the last, or columns named for the own listing
abbrev pub options_in : List Row → Option CompareOptions
options_in rows = options_from (value_from format_named (first_of (codes "format") rows)) (value_from columns_named (first_of (codes "columns") rows))
    (value_from offset_named (first_of (codes "offset") rows)) (value_from address_named (first_of (codes "from") rows))
    (value_from address_named (first_of (codes "to") rows)) (has_flag (codes "whole") rows) (has_flag (codes "all") rows)

-- ---- what is disassembled

-- how the rows of an octal text are read, by its name
abbrev pub octal_format_named : Text → Option OctalFormat
octal_format_named word = if bytes_eq word (codes "rows") then Some Rows else if bytes_eq word (codes "dump") then Some Dump else None

-- the machine by the flags for a central and for a peripheral processor; None as a whole where both stand
abbrev pub machine_from : Bool → Bool → Option (Option Machine)
machine_from true true = None
machine_from true false = Some (Some Cp)
machine_from false true = Some (Some Pp)
machine_from false false = Some None

abbrev pub machine_in : List Row → Option (Option Machine)
machine_in rows = machine_from (has_flag (codes "central") rows) (has_flag (codes "peripheral") rows)

-- what is asked by a machine, a format, columns, and a first and a last address, each of which may be left out
abbrev pub disassembly_from : Option (Option Machine) → Option (Option OctalFormat) → Option (Option ReadColumns) → Option (Option ℕ) → Option (Option ℕ)
    → Option Request
disassembly_from (Some machine) (Some format) (Some columns) (Some from) (Some to) = if are_rising from to then Some (record {
  machine = machine;
  format = unwrap_or format Rows;
  columns = columns;
  from = from;
  to = to;
}) else None
disassembly_from _ _ _ _ _ = None

-- what the options ask, None where one of their values is wrong, the first address above the last, or both machines are named
abbrev pub disassembly_in : List Row → Option Request
disassembly_in rows = disassembly_from (machine_in rows) (value_from octal_format_named (first_of (codes "format") rows))
    (value_from columns_named (first_of (codes "columns") rows)) (value_from address_named (first_of (codes "from") rows))
    (value_from address_named (first_of (codes "to") rows))
