-- What holds of all streams.
use Rattle.std.specs.Prelude.{◌≡◌, ℕ, List, ◌++◌}
use Rattle.std.specs.List.{flat_map}
use Rattle.cps_rpc.specs.Messages.{BeginsWithMessage, Splits, SplitsPieces}

-- bytes begin with one message at most, and leave one rest
abbrev pub OneReading : Type 0
OneReading = (bytes message other rest left : List ℕ) → BeginsWithMessage bytes message rest → BeginsWithMessage bytes other left
    → (message ≡ other) × (rest ≡ left)

-- bytes that begin with a message do so whatever follows
abbrev pub MessageStays : Type 0
MessageStays = (bytes message rest more : List ℕ) → BeginsWithMessage bytes message rest → BeginsWithMessage (bytes ++ more) message (rest ++ more)

-- bytes are split into messages in one way
abbrev pub OneSplitting : Type 0
OneSplitting = (bytes : List ℕ) (messages others : List (List ℕ)) (rest left : List ℕ) → Splits bytes messages rest → Splits bytes others left
    → (messages ≡ others) × (rest ≡ left)

-- more bytes are split behind what the others left
abbrev pub SplittingGoesOn : Type 0
SplittingGoesOn = (bytes more : List ℕ) (messages later : List (List ℕ)) (left rest : List ℕ) → Splits bytes messages left
    → Splits (left ++ more) later rest → Splits (bytes ++ more) (messages ++ later) rest

-- bytes hold the same messages wherever they are cut into pieces
abbrev pub AnyPieces : Type 0
AnyPieces = (held : List ℕ) (pieces messages : List (List ℕ)) (rest : List ℕ) → SplitsPieces held pieces messages rest
    → Splits (held ++ flat_map (λ piece. piece) pieces) messages rest
