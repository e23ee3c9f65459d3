-- What the words of a text are. From the Language Server Protocol 3.17; which word is what is free here.
use Rattle.std.specs.Prelude.{◌≡◌, ℕ, ◌+◌, ◌-◌, ◌==◌, ◌<◌, ◌≤◌, true, List, [], ◌∷◌, ◌++◌, length, map, codes, if◌then◌else◌}
use Rattle.std.specs.List.{All, AllPairs}
use Rattle.serde_json.specs.Data.{Data, unsigned, boolean, number, string, array, object, no_members, member}
use Rattle.serde_json.specs.View.{items_of}
use Rattle.cps_rpc.specs.declared.encoding.Encoding.{Encoding}
use Rattle.cps_rpc.specs.declared.position.Range.{Range}
use Rattle.cps_server.specs.Ranges.{told_units}
use Rattle.cps_server.specs.Symbols.{line_of}
use Rattle.cps_server.specs.declared.token.Nature.{Nature}
use Rattle.cps_server.specs.declared.token.Token.{Token}
use Rattle.cps_server.specs.declared.token.TokenKind.{TokenKind}
use Rattle.cps_server.specs.declared.token.TokenKind.TheVariants.{Keyword, Macro, Parameter, Variable, Namespace, Property, Number, Text, Comment}

-- ---- the legend

-- what words may be
abbrev pub kind_names : List (List ℕ)
kind_names =
    codes "keyword" ∷ codes "macro" ∷ codes "parameter" ∷ codes "variable" ∷ codes "namespace" ∷ codes "property" ∷ codes "number" ∷ codes "string"
    ∷ codes "comment" ∷ []

-- what else may be told of a word
abbrev pub modifier_names : List (List ℕ)
modifier_names = codes "definition" ∷ codes "readonly" ∷ []

abbrev pub names_json : List (List ℕ) → Data
names_json names = array (items_of (map string names))

abbrev pub legend : Data
legend = object (member (codes "tokenModifiers") (names_json modifier_names) (member (codes "tokenTypes") (names_json kind_names) no_members))

-- the place of a kind in the legend
abbrev pub kind_number : TokenKind → ℕ
kind_number Keyword = 0
kind_number Macro = 1
kind_number Parameter = 2
kind_number Variable = 3
kind_number Namespace = 4
kind_number Property = 5
kind_number Number = 6
kind_number Text = 7
kind_number Comment = 8

-- a bit for each modifier, in the order of the legend
abbrev pub modifiers_of : Nature → ℕ
modifiers_of nature = (if nature.is_definition then 1 else 0) + (if nature.is_readonly then 2 else 0)

-- ---- as numbers

-- the units in front of a token: from a place of a line on, if the token stands in that line
abbrev pub units_behind : ℕ → ℕ → Token → ℕ
units_behind line start token = if token.line == line then token.start - start else token.start

-- a token behind a place of a line: the lines from there, the units in front of it, its own units, what it is
abbrev pub numbers_behind : ℕ → ℕ → Token → List ℕ
numbers_behind line start token =
    (token.line - line) ∷ units_behind line start token ∷ (token.end - token.start) ∷ kind_number token.nature.kind ∷ modifiers_of token.nature ∷ []

-- each counts from the start of the one before
abbrev pub encoded_behind : ℕ → ℕ → List Token → List ℕ
encoded_behind line start [] = []
encoded_behind line start (token ∷ tokens) = numbers_behind line start token ++ encoded_behind token.line token.start tokens

abbrev pub encoded : List Token → List ℕ
encoded tokens = encoded_behind 0 0 tokens

abbrev pub number_json : ℕ → Data
number_json n = number (unsigned n)

abbrev pub data_of : List Token → Data
data_of tokens = object (member (codes "data") (array (items_of (map number_json (encoded tokens)))) no_members)

-- ---- tokens of a text

-- a token has some units of its line
pub record IsToken (encoding : Encoding) (text : List ℕ) (token : Token) : Type 0 where
  pub some : token.start < token.end
  pub within : token.end ≤ told_units encoding (line_of text token.line) (length (line_of text token.line))

-- one ends before the other begins
pub record Precedes (token next : Token) : Type 0 where
  pub line : token.line ≤ next.line
  pub units : token.line ≡ next.line → token.end ≤ next.start

-- they come one after another
pub record AreTokens (encoding : Encoding) (text : List ℕ) (tokens : List Token) : Type 0 where
  pub each : All (IsToken encoding text) tokens
  pub order : AllPairs Precedes tokens

-- in the lines of a range
pub record IsInLines (range : Range) (token : Token) : Type 0 where
  pub first : range.start.line ≤ token.line
  pub last : token.line ≤ range.end.line

-- ---- answers

-- tokens of a text
abbrev pub TellsTokens : Encoding → List ℕ → Data → Type 0
TellsTokens encoding text json = (tokens : List Token) × AreTokens encoding text tokens × (json ≡ data_of tokens)

-- those in the lines of a range
abbrev pub TellsTokensIn : Encoding → List ℕ → Range → Data → Type 0
TellsTokensIn encoding text range json =
    (tokens : List Token) × AreTokens encoding text tokens × All (IsInLines range) tokens × (json ≡ data_of tokens)
