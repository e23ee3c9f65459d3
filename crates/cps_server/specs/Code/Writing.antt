-- For the code, not part of what a reader believes: diagnostics as they are written.
use Rattle.std.specs.Prelude.{◌≡◌, ℕ, ℤ, ◌-◌, ◌≤◌, ◌<◌, ◌&&◌, Bool, true, false, nat_lt, List, [], ◌∷◌, ◌++◌, All, length, Option, Some, None, codes, decimal}
use Rattle.serde_json.specs.Data.{Data, number, string, array, object}
use Rattle.serde_json.specs.Find.{of_integer}
use Rattle.serde_json.specs.View.{items_of}
use Rattle.serde_json.specs.Written.{compact_text, items_text}
use Rattle.cps_rpc.specs.declared.encoding.Encoding.{Encoding}
use Rattle.cps_cause.specs.declared.letter.Letter.{Letter}
use Rattle.cps_server.specs.declared.mark_kind.MarkKind.{MarkKind}
use Rattle.cps_server.specs.declared.mark_kind.MarkKind.TheVariants.{Flag, Wrong}
use Rattle.cps_server.specs.Marks.{Mark}
use Rattle.cps_server.specs.declared.diagnostic.Relation.{Relation}
use Rattle.cps_server.specs.declared.diagnostic.Report.{Report}
use Rattle.cps_server.specs.declared.diagnostic.Stretch.{Stretch}
use Rattle.cps_server.specs.declared.diagnostic.Severity.{Severity}
use Rattle.cps_server.specs.declared.diagnostic.Severity.TheVariants.{Error, Information, Hint}
use Rattle.cps_server.specs.declared.idle_lines.IdleLines.{IdleLines}
use Rattle.cps_server.specs.declared.note_form.NoteForm.{NoteForm}
use Rattle.cps_server.specs.declared.queried_text.QueriedText.{QueriedText}
use Rattle.cps_server.specs.Diagnostics.{Listener, TellsBeside, TellsIdle, TellsMark, TellsMarks, TellsNote, TellsText, letter_name, more_message, note_severity, range_among, relation, report, told_of_more}
use Rattle.cps_server.specs.Ranges.{location, range_between, told_units}
use Rattle.cps_server.specs.Symbols.{line_of}
use Rattle.cps_rpc.specs.Lines.{source_lines}

-- ---- a diagnostic

abbrev pub position_text : ℕ → ℕ → List ℕ
position_text line character = codes "{\"character\":" ++ decimal character ++ codes ",\"line\":" ++ decimal line ++ codes "}"

abbrev pub range_text : Stretch → List ℕ
range_text at = codes "{\"end\":" ++ position_text at.last at.end ++ codes ",\"start\":" ++ position_text at.line at.start ++ codes "}"

-- a message, and where it shows
abbrev pub message_text : Stretch → List ℕ → List ℕ
message_text at message = codes "\"message\":" ++ compact_text (string message) ++ codes ",\"range\":" ++ range_text at

-- another place, with words about it
abbrev pub relation_text : Option Relation → List ℕ
relation_text None = []
relation_text (Some place) =
    codes ",\"relatedInformation\":[{\"location\":{\"range\":" ++ range_text place.stretch ++ codes ",\"uri\":" ++ compact_text (string place.uri.now)
    ++ codes "},\"message\":" ++ compact_text (string place.words.now) ++ codes "}]"

abbrev pub tags_text : Bool → List ℕ
tags_text false = []
tags_text true = codes ",\"tags\":[" ++ decimal 1 ++ codes "]"

-- how severe it is, as the protocol counts
abbrev pub level : Severity → ℕ
level Error = 1
level Information = 3
level Hint = 4

abbrev pub end_text : ℕ → Bool → List ℕ
end_text severity is_unnecessary =
    codes ",\"severity\":" ++ (decimal severity ++ (codes ",\"source\":\"compass\"" ++ (tags_text is_unnecessary ++ codes "}")))

-- what all diagnostics have, and their end
abbrev pub written_report : ℕ → Stretch → List ℕ → Option Relation → Bool → List ℕ
written_report severity at message place is_unnecessary = message_text at message ++ relation_text place ++ end_text severity is_unnecessary

abbrev pub report_text : ℕ → Report → Bool → List ℕ
report_text severity told is_unnecessary = written_report severity told.stretch told.message.now told.relation is_unnecessary

abbrev pub flag_front : Letter → List ℕ
flag_front letter = codes "{\"code\":\"" ++ letter_name letter ++ codes "\","

-- an error
abbrev pub diagnostic_text : MarkKind → Stretch → List ℕ → Option Relation → List ℕ
diagnostic_text (Flag letter) at message place = flag_front letter ++ written_report 1 at message place false
diagnostic_text Wrong at message place = codes "{" ++ written_report 1 at message place false

-- information without a code
abbrev pub information_text : Stretch → List ℕ → List ℕ
information_text at message = codes "{" ++ written_report 3 at message None false

-- a hint that something is unnecessary
abbrev pub idle_text : Stretch → List ℕ → List ℕ
idle_text at message = codes "{" ++ written_report 4 at message None true

-- a note
abbrev pub note_text : NoteForm → Stretch → List ℕ → List ℕ
note_text form at message = codes "{" ++ written_report (note_severity form.is_unread) at message None form.is_tagged

-- ---- another place

-- columns of a line, from the first through the last
abbrev pub columns_stretch : Encoding → List ℕ → ℕ → ℕ → ℕ → Stretch
columns_stretch encoding text line first last = record {
  line = line;
  start = told_units encoding text (first - 1);
  last = line;
  end = told_units encoding text last;
}

abbrev pub stretch_json : Stretch → Data
stretch_json at = range_between at.line at.start at.last at.end

abbrev pub relation_json : Option Relation → Option Data
relation_json None = None
relation_json (Some place) = Some (relation (location place.uri.now (stretch_json place.stretch)) place.words.now)

-- who is told the marks of a deck
abbrev pub listener_of : QueriedText → Listener
listener_of deck = record { encoding = deck.encoding; client = deck.client; uri = deck.uri.now }

-- it stands in a deck, whose editor takes it
pub record IsOther (deck : QueriedText) (place : Relation) : Type 0 where
  pub takes : deck.client.takes_relations ≡ true
  pub uri : place.uri.now ≡ deck.uri.now
  pub line : ℕ
  pub first : ℕ
  pub last : ℕ
  pub there : line < length (source_lines deck.document.now)
  pub stretch : place.stretch ≡ columns_stretch deck.encoding (line_of deck.document.now line) line first last

-- ---- a list of diagnostics

-- the diagnostic of a mark is added to a text
abbrev pub AddsMark : Listener → List (List ℕ) → Mark → List ℕ → List ℕ → Type 0
AddsMark to lines mark old new = (json : Data) × TellsMark to lines mark json × (new ≡ old ++ compact_text json)

-- those of marks are, at the beginning of a list, and behind them more may come
abbrev pub AddsMarks : Listener → List (List ℕ) → List Mark → List ℕ → List ℕ → Type 0
AddsMarks to lines marks old new =
    (told : List Data) × TellsMarks to lines marks told
    × ((more : List Data) → new ++ items_text (nat_lt 0 (length marks)) (items_of more) ≡ old ++ items_text false (items_of (told ++ more)))

-- the same in a deck
abbrev pub MarkAdded : QueriedText → Mark → List ℕ → List ℕ → Type 0
MarkAdded deck mark old new = AddsMark (listener_of deck) (source_lines deck.document.now) mark old new

abbrev pub MarksAdded : QueriedText → List Mark → List ℕ → List ℕ → Type 0
MarksAdded deck marks old new = AddsMarks (listener_of deck) (source_lines deck.document.now) marks old new

-- the diagnostics that are told of marks that are left out, behind others
abbrev pub behind_text : List Data → List ℕ
behind_text [] = []
behind_text (json ∷ told) = codes "," ++ compact_text json

abbrev pub more_text : Encoding → List (List ℕ) → List Mark → List ℕ
more_text encoding lines marks = behind_text (told_of_more encoding lines marks)

-- the diagnostic that tells how many marks are left out, of which these are the first
abbrev pub counted_text : Encoding → List (List ℕ) → List Mark → ℕ → List ℕ
counted_text encoding lines [] count = []
counted_text encoding lines (mark ∷ marks) count =
    codes "," ++ compact_text (object (report 3 (range_among encoding lines mark) (more_message count) None false))

-- lines of so many
pub record IsIdleAmong (count : ℕ) (lines : IdleLines) : Type 0 where
  pub forward : lines.first ≤ lines.last
  pub within : lines.last < count

-- the diagnostic of lines that nothing assembles is added to a text
abbrev pub AddsIdle : Listener → List ℕ → List ℕ → List ℕ → Type 0
AddsIdle to text old new = (json : Data) × TellsIdle to text json × (new ≡ old ++ compact_text json)

-- in which form an editor of a deck is told a note
abbrev pub form_for : QueriedText → Bool → NoteForm
form_for deck is_unread = record { is_unread = is_unread; is_tagged = is_unread && deck.client.takes_unnecessary }

-- where columns of a line of a deck show
abbrev pub stretch_for : QueriedText → ℕ → ℕ → ℕ → Stretch
stretch_for deck line first last = columns_stretch deck.encoding (line_of deck.document.now line) line first last

-- the diagnostic of a note is added to a text
abbrev pub AddsNote : Listener → List ℕ → List ℕ → List ℕ → Type 0
AddsNote to text old new = (json : Data) × TellsNote to text json × (new ≡ old ++ compact_text json)

-- diagnostics beside those of marks are, behind others if it is later; behind them more may come, and it is later now or not
abbrev pub AddsBeside : Listener → List ℕ → Bool → Bool → List ℕ → List ℕ → Type 0
AddsBeside to text later now old new =
    (told : List Data) × All (TellsBeside to text) told
    × ((more : List Data) → new ++ items_text now (items_of more) ≡ old ++ items_text later (items_of (told ++ more)))

-- all of them are
abbrev pub AddsAllBeside : Listener → List ℕ → Bool → List ℕ → List ℕ → Type 0
AddsAllBeside to text later old new =
    (told : List Data) × All (TellsBeside to text) told × (new ++ codes "]" ≡ old ++ items_text later (items_of told))

-- a list of diagnostics as JSON, with no blank in it
abbrev pub list_text : List Data → List ℕ
list_text told = compact_text (array (items_of told))

-- a list is that of a text's diagnostics
abbrev pub ListsText : Listener → List ℕ → List ℕ → Type 0
ListsText to text list = (told : List Data) × TellsText to text told × (list ≡ list_text told)

-- ---- what is told with it

abbrev pub version_text : Option ℤ → List ℕ
version_text None = []
version_text (Some version) = codes ",\"version\":" ++ compact_text (number (of_integer version))

-- of which document a list is, and of which version
abbrev pub document_text : List ℕ → Option ℤ → List ℕ
document_text uri version = codes ",\"uri\":" ++ compact_text (string uri) ++ version_text version

-- a list is told
abbrev pub published_text : List ℕ → Option ℤ → List ℕ → List ℕ
published_text uri version list =
    codes "{\"jsonrpc\":\"2.0\",\"method\":\"textDocument/publishDiagnostics\",\"params\":{\"diagnostics\":"
    ++ list ++ document_text uri version ++ codes "}}"
