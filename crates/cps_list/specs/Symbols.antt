-- The cross-reference: each symbol that a line defines or reads, in the order of its characters, with its final value and its lines.
-- From the manual's symbolic reference table; the layout is our profile's.
use Rattle.std.specs.Prelude.{ℕ, ◌+◌, Bool, true, false, List, [], ◌∷◌, ◌++◌, not, map, flat_map, filter, find, codes, decimal, Option, None, Some, if◌then◌else◌}
use Rattle.std.specs.FinMap.{FinMap, from_entries, keys}
use Rattle.std.specs.Option.{option_or, option_map_or}
use Rattle.std.specs.Cmp.Lexicographic.{slice_cmp}
use Rattle.std.specs.Ordering.{nat_cmp}
use Rattle.std.specs.declared.cmp.Ordering.{Ordering}
use Rattle.cps_text.specs.declared.name.Name.{Name}
use Rattle.cps_text.specs.Name.{name_text, was_generated}
use Rattle.cps_text.specs.Octal.{octal}
use Rattle.cps_expr.specs.declared.value.Value.{Value}
use Rattle.cps_expr.specs.Value.{same_name}
use Rattle.cps_code.specs.Bits.{word_bits}
use Rattle.cps_code.specs.Form.{complemented}
use Rattle.cps_final.specs.Finals.{Finals, final_value, label, setting}
use Rattle.cps_final.specs.Outcome.{Outcome}
use Rattle.cps_list.specs.declared.mention.Mention.{Mention}
use Rattle.cps_list.specs.Assembly.{Assembly}
use Rattle.cps_list.specs.Columns.{Column, laid_out}

-- ---- the lines on which symbols stand

-- generated names aren't shown
abbrev pub shown_names : List Name → List Name
shown_names names = filter (λ name. not (was_generated name)) names

-- the symbols of these names on a line, which defines them or reads them
abbrev pub mentions_as : Bool → ℕ → List Name → List Mention
mentions_as is_definition line names = map (λ name. record { name = name; line = line; is_definition = is_definition }) (shown_names names)

-- the symbols that a line defines, and those that it reads
abbrev pub mentions_on : ℕ → List Name → List Name → List Mention
mentions_on line defined read = mentions_as true line defined ++ mentions_as false line read

-- on lines that have numbers from one on
abbrev pub mentions_from : ℕ → List Outcome → List Mention
mentions_from line [] = []
mentions_from line (outcome ∷ outcomes) = mentions_on line outcome.defined outcome.read ++ mentions_from (line + 1) outcomes

-- the mentions of a symbol
abbrev pub mentions_of : Name → List Mention → List Mention
mentions_of name mentions = filter (λ mention. same_name mention.name name) mentions

-- ---- the symbols

-- names are ordered by their characters, a name before a longer one that begins with it
abbrev pub name_order : Name → Name → Ordering
name_order a b = slice_cmp nat_cmp a.bytes b.bytes

-- the symbols that are mentioned, as a finite map with nothing beside each
abbrev pub symbol_set : List Mention → FinMap name_order (Unit {0})
symbol_set mentions = from_entries (map (λ mention. (mention.name, tt)) mentions)

-- each once, in their order
abbrev pub symbols_in : List Mention → List Name
symbols_in mentions = keys (symbol_set mentions)

-- ---- rows

-- the final value: the last that SET gave, or that of the label
abbrev pub value_of : Finals → Name → Option Value
value_of finals name = option_or (final_value finals (setting name)) (final_value finals (label name))

abbrev pub value_text : Option Value → List ℕ
value_text None = codes "undefined"
value_text (Some value) = octal 20 (complemented word_bits value.offset)

-- the first line that defines the symbol, 0 where none does
abbrev pub defining_line : List Mention → ℕ
defining_line mentions = option_map_or (λ mention. mention.line) (find (λ mention. mention.is_definition) mentions) 0

-- a line that reads the symbol, behind a blank
abbrev pub reading_text : Mention → List ℕ
reading_text mention = if mention.is_definition then [] else codes " " ++ decimal mention.line

-- the lines: first the one that defines the symbol, then those that read it
abbrev pub lines_text : List Mention → List ℕ
lines_text mentions = decimal (defining_line mentions) ++ flat_map reading_text mentions

-- the name from column 1 on, the value in columns 10 to 29, the lines from 31 on
abbrev pub symbol_columns : Finals → Name → List Mention → List Column
symbol_columns finals name mentions =
    record { first = 1; text = name_text name }
    ∷ record { first = 10; text = value_text (value_of finals name) }
    ∷ record { first = 31; text = lines_text mentions }
    ∷ []

-- the row of a symbol with these mentions
abbrev pub row_of : Finals → Name → List Mention → List ℕ
row_of finals name mentions = laid_out (symbol_columns finals name mentions) ++ codes "\n"

-- ---- the text

-- the rows of the symbols that are mentioned
abbrev pub symbol_rows : Finals → List Mention → List ℕ
symbol_rows finals mentions = flat_map (λ name. row_of finals name (mentions_of name mentions)) (symbols_in mentions)

abbrev pub symbols_text : Assembly → List ℕ
symbols_text assembly = symbol_rows assembly.finals (mentions_from 1 assembly.outcomes)
