-- What is owed to one who asks for a name, or wishes to call it otherwise.
use Rattle.std.proofs.Common.{◌≡◌, refl, ap, subst, ◌∙◌, inl, inr, ℕ, ℤ, Bool, true, false, List, [], ◌∷◌, map, Option, Some, None}
use Rattle.std.specs.Prelude.{pos, negsuc, ◌||◌, if◌then◌else◌}
use Rattle.serde_json.specs.Data.{Data}
use Rattle.serde_json.specs.View.{items_of}
use Rattle.serde_json.specs.Written.{has_float, items_have_float}
use Rattle.cps_edit.specs.Assembly.{assembly_of}
use Rattle.cps_mention.specs.declared.calling.Calling.{Calling}
use Rattle.cps_mention.specs.SameBut.{SameBut}
use Rattle.cps_rpc.specs.declared.client.Client.{Client}
use Rattle.cps_rpc.specs.declared.encoding.Encoding.{Encoding}
use Rattle.cps_server.specs.Document.{source_of_text}
use Rattle.cps_server.specs.Code.Owing.{has_float_owed}
use Rattle.cps_server.specs.Renames.{Edit, IsSameText, TellsRename, Wish, edit_json, versioned_edit, wish_in, workspace_edit}
use Rattle.cps_server.specs.Requests.{IsOwed, Owed, OwesAsked, OwesRename, open_in}
use Rattle.cps_server.specs.ServerState.{OpenText, ServerState}

abbrev is_none : {A : Type 0} → Option A → Type 0
is_none None = Unit {0}
is_none (Some a) = ⊥

-- ---- by what is asked

pub asks : {A : Type 0} (found : Option OpenText) (wanted : Option A) (tells : OpenText → A → Data → Type 0) (one : OpenText) (asked : A) (owed : Owed)
    → Some one ≡ found → Some asked ≡ wanted → IsOwed (tells one asked) owed → OwesAsked found wanted tells owed
asks found wanted tells one asked owed there said is =
    subst (λ f. OwesAsked f wanted tells owed) there (subst (λ w. OwesAsked (Some one) w tells owed) said is)

-- ---- floats

owed-no-float : (tells : Data → Type 0) → ((json : Data) → tells json → has_float json ≡ false) → (owed : Owed) → IsOwed tells owed → has_float_owed owed ≡ false
owed-no-float tells none owed (inl found) = ap has_float_owed found.2 ∙ none found.0 found.1
owed-no-float tells none owed (inr failed) = ap has_float_owed failed.1

asked-no-float : {A : Type 0} (one : Option OpenText) (asked : Option A) (tells : OpenText → A → Data → Type 0)
    → ((one : OpenText) (a : A) (json : Data) → tells one a json → has_float json ≡ false) → (owed : Owed) → OwesAsked one asked tells owed
    → has_float_owed owed ≡ false
asked-no-float None asked tells none owed is = ap has_float_owed is
asked-no-float (Some one) None tells none owed is = ap has_float_owed is
asked-no-float (Some one) (Some a) tells none owed is = owed-no-float (tells one a) (none one a) owed is

pub edits-no-float : (edits : List Edit) → items_have_float (items_of (map edit_json edits)) ≡ false
edits-no-float [] = refl
edits-no-float (e ∷ edits) = edits-no-float edits

told-no-float : (takes : Bool) (uri : List ℕ) (version : Option ℤ) (edits : List Edit)
    → has_float (if takes then versioned_edit uri version edits else workspace_edit uri edits) ≡ false
told-no-float false uri version edits = ap (λ b. (b || false) || false) (edits-no-float edits)
told-no-float true uri None edits = ap (λ b. ((b || false) || false) || false) (edits-no-float edits)
told-no-float true uri (Some (pos n)) edits = ap (λ b. ((b || false) || false) || false) (edits-no-float edits)
told-no-float true uri (Some (negsuc n)) edits = ap (λ b. ((b || false) || false) || false) (edits-no-float edits)

rename-no-float : (encoding : Encoding) (client : Client) (one : OpenText) (wish : Wish) (json : Data) → TellsRename encoding client one wish json
    → has_float json ≡ false
rename-no-float encoding client one wish json is = ap has_float is.4 ∙ told-no-float client.takes_versions one.uri one.version is.1

pub renaming-no-float : (params : Data) (old : ServerState) (owed : Owed) → OwesRename params old owed → has_float_owed owed ≡ false
renaming-no-float params old owed is =
    asked-no-float (open_in params old) (wish_in params) (λ one wish json. TellsRename old.encoding old.client one wish json)
    (λ one wish json tells. rename-no-float old.encoding old.client one wish json tells) owed is

-- ---- the certificate

pub same-text : (calling : Calling) (before after : List ℕ) (was is : List (List ℕ)) → was ≡ source_of_text before → is ≡ source_of_text after
    → SameBut calling (assembly_of was) (assembly_of is) → IsSameText calling before after
same-text calling before after was is there here same =
    subst (λ lines. SameBut calling (assembly_of lines) (assembly_of (source_of_text after))) there
    (subst (λ lines. SameBut calling (assembly_of was) (assembly_of lines)) here same)
