-- What an editor takes, as its capabilities say. From the Language Server Protocol 3.17.
use Rattle.std.specs.Prelude.{ℕ, ◌==◌, Bool, false, List, Option, None, Some, codes, option_and_then, unwrap_or}
use Rattle.std.specs.List.{list_any}
use Rattle.serde_json.specs.Data.{Data}
use Rattle.serde_json.specs.Find.{get, as_bool, as_number, as_u64}
use Rattle.cps_rpc.specs.declared.client.Client.{Client}
use Rattle.cps_rpc.specs.declared.markup.Markup.TheVariants.{Plain}
use Rattle.cps_rpc.specs.Params.{list_of, markup_in}

-- an editor that says nothing of itself
abbrev pub unknown : Client
unknown = record { markup = Plain; takes_relations = false; takes_unnecessary = false; takes_trees = false; takes_versions = false }

-- whether a member says so; one that is missing, or no boolean, doesn't
abbrev pub says : Option Data → Bool
says json = unwrap_or (option_and_then as_bool json) false

-- what it says of a subject of text documents, or of the workspace
abbrev pub of_documents : List ℕ → Data → Option Data
of_documents subject json =
    option_and_then (get subject) (option_and_then (get (codes "textDocument")) (get (codes "capabilities") json))

abbrev pub of_workspace : List ℕ → Data → Option Data
of_workspace subject json =
    option_and_then (get subject) (option_and_then (get (codes "workspace")) (get (codes "capabilities") json))

-- whether a diagnostic may lead to another place
abbrev pub takes_relations : Data → Bool
takes_relations json = says (option_and_then (get (codes "relatedInformation")) (of_documents (codes "publishDiagnostics") json))

-- the tags that a diagnostic may have
abbrev pub tags_in : Data → Option (List Data)
tags_in json = option_and_then list_of (option_and_then (get (codes "valueSet"))
    (option_and_then (get (codes "tagSupport")) (of_documents (codes "publishDiagnostics") json)))

-- the tag of what is unnecessary
abbrev pub is_one : Option ℕ → Bool
is_one None = false
is_one (Some n) = n == 1

abbrev pub is_unnecessary : Data → Bool
is_unnecessary tag = is_one (option_and_then as_u64 (as_number tag))

abbrev pub has_unnecessary : Option (List Data) → Bool
has_unnecessary None = false
has_unnecessary (Some tags) = list_any is_unnecessary tags

abbrev pub takes_unnecessary : Data → Bool
takes_unnecessary json = has_unnecessary (tags_in json)

-- whether an outline may be a tree
abbrev pub takes_trees : Data → Bool
takes_trees json = says (option_and_then (get (codes "hierarchicalDocumentSymbolSupport")) (of_documents (codes "documentSymbol") json))

-- whether edits may say of which version of a document they are
abbrev pub takes_versions : Data → Bool
takes_versions json = says (option_and_then (get (codes "documentChanges")) (of_workspace (codes "workspaceEdit") json))

abbrev pub client_in : Data → Client
client_in json = record {
  markup = markup_in json;
  takes_relations = takes_relations json;
  takes_unnecessary = takes_unnecessary json;
  takes_trees = takes_trees json;
  takes_versions = takes_versions json;
}
