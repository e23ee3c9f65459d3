-- Messages of a stream of bytes, each behind its header.
use Rattle.std.specs.Prelude.{◌≡◌, ℕ, ◌<◌, ◌⊎◌, List, [], ◌∷◌, ◌++◌, length}
use Rattle.httparse.specs.Grammar.{Field, LineEnd, print_section, HasNoSection, MayBecomeSection}
use Rattle.cps_rpc.specs.Header.{IsHeader}

-- bytes begin with a message behind its header, and this is left
pub record BeginsWithMessage (bytes message rest : List ℕ) : Type 0 where
  pub fields : List Field
  pub last : LineEnd
  pub header : IsHeader fields message
  pub whole : bytes ≡ print_section fields last ++ (message ++ rest)

-- bytes begin with some message
abbrev pub HasMessage : List ℕ → Type 0
HasMessage bytes = (message rest : List ℕ) × BeginsWithMessage bytes message rest

-- bytes begin with no message
abbrev pub HasNoMessage : List ℕ → Type 0
HasNoMessage bytes = (message rest : List ℕ) → BeginsWithMessage bytes message rest → ⊥

-- nor do they, whatever follows
abbrev pub NeverHasMessage : List ℕ → Type 0
NeverHasMessage bytes = (more : List ℕ) → HasNoMessage (bytes ++ more)

-- ---- a message that hasn't come whole

-- no header has ended, and one can
abbrev pub EndsInHeader : List ℕ → Type 0
EndsInHeader bytes = HasNoSection bytes × MayBecomeSection bytes

-- a header has ended, and a part of its message has come
pub record EndsInMessage (bytes : List ℕ) : Type 0 where
  pub fields : List Field
  pub last : LineEnd
  pub part : List ℕ
  pub missing : List ℕ
  pub header : IsHeader fields (part ++ missing)
  pub some : 0 < length missing
  pub whole : bytes ≡ print_section fields last ++ part

-- A part of a message has come: bytes begin with none, and end in a header or in a message. Whether a header tells a length is seen when it has ended.
pub record IsPart (bytes : List ℕ) : Type 0 where
  pub none : HasNoMessage bytes
  pub ends : EndsInHeader bytes ⊎ EndsInMessage bytes

-- ---- a stream

-- bytes are these messages one after another, and then a rest that begins with none
abbrev pub Splits : List ℕ → List (List ℕ) → List ℕ → Type 0
Splits bytes [] rest = (bytes ≡ rest) × HasNoMessage rest
Splits bytes (message ∷ messages) rest = (left : List ℕ) × BeginsWithMessage bytes message left × Splits left messages rest

-- the same of bytes that come in pieces, where messages are taken whenever a piece has come
abbrev pub SplitsPieces : List ℕ → List (List ℕ) → List (List ℕ) → List ℕ → Type 0
SplitsPieces held [] messages rest = Splits held messages rest
SplitsPieces held (piece ∷ pieces) messages rest =
    (front later : List (List ℕ)) × (left : List ℕ) × Splits held front left × SplitsPieces (left ++ piece) pieces later rest × (messages ≡ front ++ later)
