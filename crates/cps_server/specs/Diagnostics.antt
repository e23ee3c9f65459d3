-- What an editor is told of a text: a diagnostic for each mark, up to 1,000, of lines that nothing assembles, and of notes. From the Language Server Protocol 3.17; the
-- limit is our own.
use Rattle.std.specs.Prelude.{◌≡◌, ℕ, ℤ, ◌<◌, ◌≤◌, ◌⊎◌, ◌&&◌, Bool, true, false, List, [], ◌∷◌, ◌++◌, length, take, drop, Option, Some, None, ⊤, codes, decimal, slice_index_or}
use Rattle.std.specs.List.{All, AllZip}
use Rattle.serde_json.specs.Data.{Data, unsigned, number, string, array, object, Members, no_members, member}
use Rattle.serde_json.specs.Find.{of_integer}
use Rattle.serde_json.specs.View.{items_of}
use Rattle.cps_rpc.specs.declared.client.Client.{Client}
use Rattle.cps_rpc.specs.declared.encoding.Encoding.{Encoding}
use Rattle.cps_rpc.specs.Lines.{source_lines}
use Rattle.cps_cause.specs.declared.letter.Letter.{Letter}
use Rattle.cps_cause.specs.declared.letter.Letter.TheVariants.{A, D, E, L, O, T, U, V}
use Rattle.cps_rpc.specs.Outgoing.{notification}
use Rattle.cps_server.specs.Document.{source_of_text}
use Rattle.cps_server.specs.Ranges.{columns_range, location, range_between, told_units}
use Rattle.cps_server.specs.Symbols.{line_of}
use Rattle.cps_server.specs.declared.mark_kind.MarkKind.{MarkKind}
use Rattle.cps_server.specs.declared.mark_kind.MarkKind.TheVariants.{Flag, Wrong}
use Rattle.cps_server.specs.Marks.{Mark, Marks}

-- Who is told marks: an editor that counts positions in this way and takes this, of the document of a URI.
pub record Listener : Type 0 where
  pub encoding : Encoding
  pub client : Client
  pub uri : List ℕ

-- ---- a diagnostic

-- the range of a mark in this line: from its first column through its last
abbrev pub mark_range : Encoding → List ℕ → Mark → Data
mark_range encoding line mark = columns_range encoding line mark.line mark.first mark.last

-- that of a mark in a source of these lines
abbrev pub range_among : Encoding → List (List ℕ) → Mark → Data
range_among encoding lines mark = mark_range encoding (slice_index_or lines mark.line []) mark

-- the name of a flag's letter
abbrev pub letter_name : Letter → List ℕ
letter_name A = codes "A"
letter_name D = codes "D"
letter_name E = codes "E"
letter_name L = codes "L"
letter_name O = codes "O"
letter_name T = codes "T"
letter_name U = codes "U"
letter_name V = codes "V"

-- another place to which a diagnostic leads, with words about it
abbrev pub relation : Data → List ℕ → Data
relation place words = object (member (codes "location") place (member (codes "message") (string words) no_members))

abbrev pub with_relation : Option Data → Members → Members
with_relation None members = members
with_relation (Some json) members = member (codes "relatedInformation") (array (items_of (json ∷ []))) members

-- the tag of what is unnecessary
abbrev pub tags : Bool → Members
tags false = no_members
tags true = member (codes "tags") (array (items_of (number (unsigned 1) ∷ []))) no_members

-- what compass reports of a range, with a message, perhaps with another place, or as unnecessary: an error has severity 1, information 3, and a hint 4
abbrev pub report : ℕ → Data → List ℕ → Option Data → Bool → Members
report severity range message place is_unnecessary =
    member (codes "message") (string message) (member (codes "range") range (with_relation place
    (member (codes "severity") (number (unsigned severity)) (member (codes "source") (string (codes "compass")) (tags is_unnecessary)))))

-- an error; a flag is told with its letter
abbrev pub diagnostic : MarkKind → Data → List ℕ → Option Data → Data
diagnostic (Flag letter) range message place = object (member (codes "code") (string (letter_name letter)) (report 1 range message place false))
diagnostic Wrong range message place = object (report 1 range message place false)

-- another place of a text of these lines; which one, and what is said of it, is free
pub record IsRelation (to : Listener) (lines : List (List ℕ)) (json : Data) : Type 0 where
  pub takes : to.client.takes_relations ≡ true
  pub line : ℕ
  pub first : ℕ
  pub last : ℕ
  pub words : List ℕ
  pub there : line < length lines
  pub is : json ≡ relation (location to.uri (columns_range to.encoding (slice_index_or lines line []) line first last)) words

abbrev pub MayRelate : Listener → List (List ℕ) → Option Data → Type 0
MayRelate to lines None = ⊤
MayRelate to lines (Some json) = IsRelation to lines json

-- the diagnostic of a mark in a source of these lines; its message is free, and whether it leads to another place
abbrev pub TellsMark : Listener → List (List ℕ) → Mark → Data → Type 0
TellsMark to lines mark json =
    (message : List ℕ) × (place : Option Data) × MayRelate to lines place × (json ≡ diagnostic mark.kind (range_among to.encoding lines mark) message place)

-- marks are told, each by a diagnostic, and nothing else
abbrev pub TellsMarks : Listener → List (List ℕ) → List Mark → List Data → Type 0
TellsMarks to lines marks told = AllZip (TellsMark to lines) marks told

-- ---- more marks

-- the most marks that are told one by one
abbrev pub most_told : ℕ
most_told = 1_000

-- how many more there are
abbrev pub more_message : ℕ → List ℕ
more_message count = codes "and " ++ decimal count ++ codes " more from here on"

-- what is told of marks that are left out: where the first of them is, how many they are
abbrev pub told_of_more : Encoding → List (List ℕ) → List Mark → List Data
told_of_more encoding lines [] = []
told_of_more encoding lines (mark ∷ marks) =
    object (report 3 (range_among encoding lines mark) (more_message (length (mark ∷ marks))) None false) ∷ []

-- ---- lines that nothing assembles

-- lines of a text that are unnecessary, up to a place of the last one; which lines these are, and what is said of them, is free
pub record TellsIdle (to : Listener) (text : List ℕ) (json : Data) : Type 0 where
  pub takes : to.client.takes_unnecessary ≡ true
  pub first : ℕ
  pub last : ℕ
  pub place : ℕ
  pub message : List ℕ
  pub forward : first ≤ last
  pub within : last < length (source_of_text text)
  pub is : json ≡ object (report 4 (range_between first 0 last (told_units to.encoding (line_of text last) place)) message None true)

-- ---- notes

-- that nothing reads a symbol is a hint, and another note is information
abbrev pub note_severity : Bool → ℕ
note_severity false = 3
note_severity true = 4

-- a note of columns of a line of a text; which lines have notes, where, and what these say, is free
pub record TellsNote (to : Listener) (text : List ℕ) (json : Data) : Type 0 where
  pub line : ℕ
  pub first : ℕ
  pub last : ℕ
  pub is_unread : Bool
  pub message : List ℕ
  pub within : line < length (source_of_text text)
  pub is : json ≡ object (report (note_severity is_unread) (columns_range to.encoding (line_of text line) line first last) message None
      (is_unread && to.client.takes_unnecessary))

-- what is told beside marks
abbrev pub TellsBeside : Listener → List ℕ → Data → Type 0
TellsBeside to text json = TellsIdle to text json ⊎ TellsNote to text json

-- ---- a text

-- a list of diagnostics, told of the document of a URI, and of this version if it is known
abbrev pub told_of : List ℕ → Option ℤ → Data → Data
told_of uri None list = object (member (codes "diagnostics") list (member (codes "uri") (string uri) no_members))
told_of uri (Some version) list =
    object (member (codes "diagnostics") list (member (codes "uri") (string uri) (member (codes "version") (number (of_integer version)) no_members)))

abbrev pub published : List ℕ → Option ℤ → List Data → Data
published uri version told = notification (codes "textDocument/publishDiagnostics") (told_of uri version (array (items_of told)))

-- the marks of a text are told: the first 1,000 one by one, and how many more there are; beside them only lines that nothing assembles, and notes
pub record TellsText (to : Listener) (text : List ℕ) (told : List Data) : Type 0 where
  pub marks : List Mark
  pub of_text : Marks text marks
  pub first : List Data
  pub each : TellsMarks to (source_lines text) (take most_told marks) first
  pub beside : List Data
  pub each_beside : All (TellsBeside to text) beside
  pub all : told ≡ first ++ (told_of_more to.encoding (source_lines text) (drop most_told marks) ++ beside)
