-- The outline of a text that an editor has open. From the Language Server Protocol 3.17.
use Rattle.std.specs.Prelude.{◌≡◌, ◌≤◌, ◌<◌, ℕ, ◌-◌, Bool, true, false, List, ◌++◌, map, flat_map, All, codes}
use Rattle.std.specs.List.{AllZip}
use Rattle.std.specs.List.Sorted.{IsPermutation}
use Rattle.serde_json.specs.Data.{Data, unsigned, number, string, array, object, no_members, member}
use Rattle.serde_json.specs.View.{items_of}
use Rattle.cps_text.specs.declared.name.Name.{Name}
use Rattle.cps_text.specs.Name.{name_text}
use Rattle.cps_final.specs.Finals.{Finals}
use Rattle.cps_list.specs.declared.mention.Mention.{Mention}
use Rattle.cps_list.specs.Symbols.{value_of, value_text}
use Rattle.cps_server.specs.Completions.{macros_in}
use Rattle.cps_server.specs.declared.headings.Heading.{Heading}
use Rattle.cps_server.specs.Ranges.{range_between, range_of}
use Rattle.cps_server.specs.Results.{finals_in, text_json}
use Rattle.cps_server.specs.Symbols.{definitions, mentions_in}

-- one of a kind, as the protocol counts them, with words about it, the range of its line, and that of its name in the line
abbrev pub outlined : ℕ → List ℕ → List ℕ → Data → Data → Data
outlined kind detail name range selection =
    object (member (codes "detail") (text_json detail) (member (codes "kind") (number (unsigned kind)) (member (codes "name") (text_json name)
    (member (codes "range") range (member (codes "selectionRange") selection no_members)))))

-- its range and that of its name are in a line, one within the other
pub record IsOutlined (kind : ℕ) (detail name : List ℕ) (line : ℕ) (json : Data) : Type 0 where
  pub start : ℕ
  pub first : ℕ
  pub last : ℕ
  pub end : ℕ
  pub behind : start ≤ first
  pub forward : first ≤ last
  pub within : last ≤ end
  pub is : json ≡ outlined kind detail name (range_of line start end) (range_of line first last)

-- a definition of a symbol, with its value
abbrev pub TellsSymbol : Finals → Mention → Data → Type 0
TellsSymbol finals mention json =
    IsOutlined 14 (value_text (value_of finals mention.name)) (name_text mention.name) (mention.line - 1) json

-- a macro; in which line it is defined is tested
abbrev pub TellsMacro : Name → Data → Type 0
TellsMacro name json = (line : ℕ) × IsOutlined 12 (codes "macro") (name_text name) line json

-- a heading; which lines are headings, and what each says, is tested
abbrev pub TellsHeading : Heading → Data → Type 0
TellsHeading heading json = (name : List ℕ) × IsOutlined 3 (codes "heading") name heading.line json

-- the definitions of a text, and its macros
pub record AreNamed (text : List ℕ) (rows : List Data) : Type 0 where
  pub symbols : List Data
  pub each_symbol : AllZip (TellsSymbol (finals_in text)) (definitions (mentions_in text)) symbols
  pub macros : List Data
  pub each_macro : AllZip TellsMacro (macros_in text) macros
  pub are : rows ≡ symbols ++ macros

-- headings behind them
pub record IsFlat (rows told : List Data) : Type 0 where
  pub heads : List Heading
  pub headings : List Data
  pub each_heading : AllZip TellsHeading heads headings
  pub is : told ≡ rows ++ headings

-- ---- a tree, where the editor takes one

-- a row of a line
pub record IsRow (line : ℕ) (json : Data) : Type 0 where
  pub kind : ℕ
  pub detail : List ℕ
  pub name : List ℕ
  pub is : IsOutlined kind detail name line json

-- of a line from one up to another
pub record IsRowBetween (first end : ℕ) (json : Data) : Type 0 where
  pub line : ℕ
  pub behind : first ≤ line
  pub before : line < end
  pub is : IsRow line json

-- a heading over rows, with the range of its section, and that of its name
abbrev pub section_json : List ℕ → Data → Data → List Data → Data
section_json name range selection rows =
    object (member (codes "children") (array (items_of rows)) (member (codes "detail") (string (codes "heading")) (member (codes "kind") (number (unsigned 3))
    (member (codes "name") (text_json name) (member (codes "range") range (member (codes "selectionRange") selection no_members))))))

pub record Section : Type 0 where
  pub rows : List Data
  pub json : Data

-- its range goes from the start of the heading's line up to that of a later line; the heading's name is in its line, and each row in one of these lines
pub record IsSection (section : Section) : Type 0 where
  pub heading : Heading
  pub end : ℕ
  pub some : heading.line < end
  pub within : All (IsRowBetween heading.line end) section.rows
  pub name : List ℕ
  pub first : ℕ
  pub last : ℕ
  pub forward : first ≤ last
  pub is : section.json ≡ section_json name (range_between heading.line 0 end 0) (range_of heading.line first last) section.rows

-- each row once, in front or in a section; which lines are headings, and the order, is tested
pub record IsTree (rows told : List Data) : Type 0 where
  pub front : List Data
  pub in_line : All (λ json. (line : ℕ) × IsRow line json) front
  pub sections : List Section
  pub each_section : All IsSection sections
  pub same : IsPermutation rows (front ++ flat_map (λ section. section.rows) sections)
  pub is : told ≡ front ++ map (λ section. section.json) sections

-- an outline, as a tree or not
abbrev pub IsLaidOut : Bool → List Data → List Data → Type 0
IsLaidOut true rows told = IsTree rows told
IsLaidOut false rows told = IsFlat rows told

pub record TellsSymbols (is_tree : Bool) (text : List ℕ) (json : Data) : Type 0 where
  pub rows : List Data
  pub named : AreNamed text rows
  pub told : List Data
  pub laid_out : IsLaidOut is_tree rows told
  pub is : json ≡ array (items_of told)
