-- The symbols of a text that an editor has open: which one is pointed at, and on which lines it stands. Our own.
use Rattle.std.specs.Prelude.{ℕ, Bool, not, ◌||◌, List, [], ◌∷◌, filter, Option, Some, None, slice_index_or}
use Rattle.cps_text.specs.declared.name.Name.{Name}
use Rattle.cps_list.specs.declared.mention.Mention.{Mention}
use Rattle.cps_final.specs.Finals.{Finals}
use Rattle.cps_list.specs.Symbols.{mentions_from, mentions_of, row_of}
use Rattle.cps_edit.specs.Assembly.{assembly_of}
use Rattle.cps_rpc.specs.declared.encoding.Encoding.{Encoding}
use Rattle.cps_rpc.specs.declared.position.Position.{Position}
use Rattle.cps_rpc.specs.Lines.{source_lines}
use Rattle.cps_rpc.specs.Positions.{place_in}
use Rattle.cps_server.specs.Document.{source_of_text}
use Rattle.cps_server.specs.Words.{symbol_at}

-- the line of a text, from 0, of those that batch assembly reads; no bytes where there is none
abbrev pub line_of : List ℕ → ℕ → List ℕ
line_of text number = slice_index_or (source_lines text) number []

-- the symbol around a position in a text
abbrev pub pointed_in : Encoding → List ℕ → ℕ → Option Name
pointed_in encoding line units = symbol_at line (place_in encoding line units)

abbrev pub pointed : Encoding → List ℕ → Position → Option Name
pointed encoding text position = pointed_in encoding (line_of text position.line) position.character

-- what the lines of a text's source mention: each symbol that a line defines or reads, in the order of the lines
abbrev pub mentions_in : List ℕ → List Mention
mentions_in text = mentions_from 1 (assembly_of (source_of_text text)).outcomes

-- those of the symbol that is pointed at, if one is
abbrev pub mentions_under : Option Name → List Mention → List Mention
mentions_under None mentions = []
mentions_under (Some name) mentions = mentions_of name mentions

abbrev pub mentions_at : Encoding → List ℕ → Position → List Mention
mentions_at encoding text position = mentions_under (pointed encoding text position) (mentions_in text)

-- the definitions among mentions
abbrev pub definitions : List Mention → List Mention
definitions mentions = filter (λ mention. mention.is_definition) mentions

-- the mentions that are wanted: those that read a symbol, or all
abbrev pub wanted : Bool → List Mention → List Mention
wanted definitions_too mentions = filter (λ mention. definitions_too || not mention.is_definition) mentions

-- the row of the cross-reference of a symbol with these mentions; none where no line mentions it
abbrev pub mentioned_row : Finals → Name → List Mention → List ℕ
mentioned_row finals name [] = []
mentioned_row finals name (mention ∷ mentions) = row_of finals name (mention ∷ mentions)

-- that of the symbol that is pointed at, if one is
abbrev pub row_under : Finals → Option Name → List Mention → List ℕ
row_under finals None mentions = []
row_under finals (Some name) mentions = mentioned_row finals name mentions

abbrev pub row_at : Encoding → List ℕ → Position → List ℕ
row_at encoding text position =
    row_under (assembly_of (source_of_text text)).finals (pointed encoding text position) (mentions_at encoding text position)

-- that of a symbol of a text
abbrev pub symbol_row : List ℕ → Name → List ℕ
symbol_row text name = row_under (assembly_of (source_of_text text)).finals (Some name) (mentions_under (Some name) (mentions_in text))
