-- What the operation of a line takes. From the Language Server Protocol 3.17. Which operands these are is tested, not proved.
use Rattle.std.specs.Prelude.{◌≡◌, ◌<◌, ◌≤◌, ◌⊎◌, ℕ, max, List, [], ◌∷◌, All, length, map, codes, slice_get}
use Rattle.std.specs.Option.{option_map_or}
use Rattle.serde_json.specs.Data.{Data, unsigned, null, number, array, object, no_members, member}
use Rattle.serde_json.specs.View.{items_of}
use Rattle.cps_rpc.specs.declared.position.Position.{Position}
use Rattle.cps_server.specs.Document.{source_of_text}
use Rattle.cps_server.specs.Results.{text_json}
use Rattle.cps_server.specs.declared.signature.LabelPart.{LabelPart}
use Rattle.cps_server.specs.declared.signature.Signature.{Signature}

-- a part of so many characters
pub record IsPart (count : ℕ) (part : LabelPart) : Type 0 where
  pub forward : part.start ≤ part.end
  pub within : part.end ≤ count

-- each parameter stands in the label
abbrev pub IsSignature : Signature → Type 0
IsSignature signature = All (IsPart (length signature.label.items)) signature.parameters.items

-- how many parameters has one of a place
abbrev pub parameter_count : List Signature → ℕ → ℕ
parameter_count signatures place = option_map_or (λ signature. length signature.parameters.items) (slice_get signatures place) 0

-- ---- as they are told

abbrev pub part_json : LabelPart → Data
part_json part = object (member (codes "label") (array (items_of (number (unsigned part.start) ∷ number (unsigned part.end) ∷ []))) no_members)

abbrev pub told_signature : List ℕ → Data → Data
told_signature label parameters = object (member (codes "label") (text_json label) (member (codes "parameters") parameters no_members))

abbrev pub signature_json : Signature → Data
signature_json signature = told_signature signature.label.items (array (items_of (map part_json signature.parameters.items)))

abbrev pub told_help : Data → ℕ → ℕ → Data
told_help signatures active parameter =
    object (member (codes "activeParameter") (number (unsigned parameter)) (member (codes "activeSignature") (number (unsigned active))
    (member (codes "signatures") signatures no_members)))

abbrev pub help_json : List Signature → ℕ → ℕ → Data
help_json signatures active parameter = told_help (array (items_of (map signature_json signatures))) active parameter

-- one of some is the active one, and one of its parameters, or the first where it has none
pub record IsHelp (signatures : List Signature) (active parameter : ℕ) : Type 0 where
  pub stand : All IsSignature signatures
  pub one : active < length signatures
  pub few : parameter < max 1 (parameter_count signatures active)

abbrev pub TellsSome : Data → Type 0
TellsSome json = (signatures : List Signature) × (active parameter : ℕ) × IsHelp signatures active parameter × (json ≡ help_json signatures active parameter)

-- some, or null
abbrev pub TellsHelp : Data → Type 0
TellsHelp json = (json ≡ null) ⊎ TellsSome json

-- null where no such line is assembled
abbrev pub TellsSignature : List ℕ → Position → Data → Type 0
TellsSignature text position json = (json ≡ null) ⊎ ((position.line < length (source_of_text text)) × TellsSome json)
