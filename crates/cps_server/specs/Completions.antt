-- What may be written next: words in the place of the one at a position, by its field. The form is that of the Language Server Protocol 3.17; what is
-- offered is our own.
use Rattle.std.specs.Prelude.{ℕ, ◌-◌, List, [], ◌∷◌, ◌++◌, length, take, drop, map, flat_map, codes, bytes_eq, if◌then◌else◌}
use Rattle.std.specs.List.{list_any}
use Rattle.serde_json.specs.Data.{Data, unsigned, number, object, no_members, member}
use Rattle.cps_text.specs.declared.name.Name.{Name}
use Rattle.cps_text.specs.Name.{name_text}
use Rattle.cps_expr.specs.declared.machine.Machine.{Machine}
use Rattle.cps_expr.specs.declared.machine.Machine.TheVariants.{Cp, Pp}
use Rattle.cps_expr.specs.Operation.{operations}
use Rattle.cps_expr.specs.Value.{same_name}
use Rattle.cps_code.specs.Table.{cp_operations}
use Rattle.cps_code.specs.PeripheralTable.{pp_table}
use Rattle.cps_state.specs.declared.key.Key.{Key}
use Rattle.cps_state.specs.declared.key.Key.TheVariants as key
use Rattle.cps_state.specs.declared.key.Put.{Put}
use Rattle.cps_final.specs.Distinct.{distinct}
use Rattle.cps_final.specs.Finals.{Finals}
use Rattle.cps_final.specs.Layout.{puts_of}
use Rattle.cps_list.specs.declared.mention.Mention.{Mention}
use Rattle.cps_list.specs.Symbols.{shown_names, value_of, value_text}
use Rattle.cps_edit.specs.Assembly.{traces_of}
use Rattle.cps_rpc.specs.declared.encoding.Encoding.{Encoding}
use Rattle.cps_rpc.specs.declared.position.Position.{Position}
use Rattle.cps_server.specs.declared.field.Field.{Field}
use Rattle.cps_server.specs.declared.field.Field.TheVariants.{Location, Operation, Operand, Remark}
use Rattle.cps_server.specs.Document.{source_of_text}
use Rattle.cps_server.specs.Fields.{field_at}
use Rattle.cps_server.specs.MachineAbove.{machine_at}
use Rattle.cps_server.specs.Ranges.{word_at}
use Rattle.cps_server.specs.Results.{finals_in, text_json}
use Rattle.cps_server.specs.Symbols.{definitions, mentions_in}

-- a word that is offered: its kind, as the protocol counts kinds, its text, and what stands beside it
pub record Offer : Type 0 where
  pub kind : ℕ
  pub label : List ℕ
  pub detail : List ℕ

-- words of one kind, with the same beside each
abbrev pub offers_of : ℕ → List ℕ → List (List ℕ) → List Offer
offers_of kind detail labels = map (λ label. record { kind = kind; label = label; detail = detail }) labels

-- ---- symbols

-- the symbols that lines of a text define, each once
abbrev pub defined_in : List ℕ → List Name
defined_in text = distinct same_name (map (λ mention. mention.name) (definitions (mentions_in text)))

-- a symbol, unless it is among others
abbrev pub unless_among : List Name → Name → List Name
unless_among names name = if list_any (same_name name) names then [] else name ∷ []

-- those of mentions that aren't among others
abbrev pub others_than : List Name → List Mention → List Name
others_than names mentions = flat_map (λ mention. unless_among names mention.name) mentions

-- the symbols that lines of a text read and none defines, each once
abbrev pub missing_in : List ℕ → List Name
missing_in text = distinct same_name (others_than (defined_in text) (mentions_in text))

-- a symbol, with its final value beside it
abbrev pub valued_offer : List ℕ → List ℕ → Offer
valued_offer name value = record { kind = 21; label = name; detail = value }

abbrev pub symbol_offer : Finals → Name → Offer
symbol_offer finals name = valued_offer (name_text name) (value_text (value_of finals name))

abbrev pub symbol_offers : List ℕ → List Name → List Offer
symbol_offers text names = map (symbol_offer (finals_in text)) names

abbrev pub missing_offers : List ℕ → List Offer
missing_offers text = symbol_offers text (missing_in text)

-- ---- registers

-- a letter with each octal digit behind it
abbrev pub with_digits : List ℕ → List (List ℕ)
with_digits letters = map (λ digit. letters ++ digit ∷ []) (codes "01234567")

-- the registers of a machine that operands name
abbrev pub registers : Machine → List (List ℕ)
registers Cp = codes "A" ∷ codes "B" ∷ codes "X" ∷ []
registers Pp = []

abbrev pub register_offers : Machine → List Offer
register_offers machine = offers_of 6 (codes "register") (flat_map with_digits (registers machine))

-- what operands name
abbrev pub operand_offers : Machine → List ℕ → List Offer
operand_offers machine text = symbol_offers text (defined_in text) ++ register_offers machine

-- ---- operations

-- the macro whose key this is, unless its name was generated
abbrev pub macro_of : Key → List Name
macro_of (key.Macro name) = shown_names (name ∷ [])
macro_of other = []

abbrev pub macros_put : List Put → List Name
macros_put puts = flat_map (λ p. macro_of p.key) puts

-- the macros that lines of a text define, each once
abbrev pub macros_in : List ℕ → List Name
macros_in text = distinct same_name (macros_put (puts_of (traces_of (source_of_text text))))

-- the names of statements
abbrev pub statement_names : List (List ℕ)
statement_names = map (λ entry. entry.0) operations

-- what a name of the table stands for: where it ends in `i`, a name with the digit of each register
abbrev pub spelled : List ℕ → List (List ℕ)
spelled name =
    if bytes_eq (drop (length name - 1) name) (codes "i") then with_digits (take (length name - 1) name) else name ∷ []

-- the names of a machine's instructions in its table
abbrev pub table_names : Machine → List (List ℕ)
table_names Cp = map (λ operation. operation.name) cp_operations
table_names Pp = map (λ row. row.operation) pp_table

abbrev pub machine_name : Machine → List ℕ
machine_name Cp = codes "central processor"
machine_name Pp = codes "peripheral processor"

-- macros, statements, and the instructions of a machine, as they are offered
abbrev pub macro_offers : List Name → List Offer
macro_offers names = offers_of 3 (codes "macro") (map name_text names)

abbrev pub statement_offers : List Offer
statement_offers = offers_of 14 (codes "statement") statement_names

abbrev pub instruction_offers : Machine → List Offer
instruction_offers machine = offers_of 14 (machine_name machine) (flat_map spelled (table_names machine))

abbrev pub operation_offers : Machine → List ℕ → List Offer
operation_offers machine text = macro_offers (macros_in text) ++ statement_offers ++ instruction_offers machine

-- ---- by field

-- what is offered in a field of a line that is assembled for a machine
abbrev pub offered_in : Field → Machine → List ℕ → List Offer
offered_in Location machine text = missing_offers text
offered_in Operation machine text = operation_offers machine text
offered_in Operand machine text = operand_offers machine text
offered_in Remark machine text = []

-- what is offered at a position
abbrev pub offered_at : Encoding → List ℕ → Position → List Offer
offered_at encoding text position = offered_in (field_at encoding text position) (machine_at text position.line) text

-- ---- as it is told

-- a text that comes in the place of a range
abbrev pub edit : Data → Data → Data
edit range text = object (member (codes "newText") text (member (codes "range") range no_members))

-- a word that may come in the place of a range
abbrev pub completion : Data → Offer → Data
completion range offer =
    object (member (codes "detail") (text_json offer.detail) (member (codes "kind") (number (unsigned offer.kind))
    (member (codes "label") (text_json offer.label) (member (codes "textEdit") (edit range (text_json offer.label)) no_members))))

-- those that may come in the place of the word at a position
abbrev pub completions_at : Encoding → List ℕ → Position → List Data
completions_at encoding text position = map (completion (word_at encoding text position)) (offered_at encoding text position)
