-- What a server says, and where it stands then.
use Rattle.std.proofs.Common.{◌≡◌, refl, sym, ap, subst, ◌∙◌, inr, ℕ, ℤ, List, [], ◌∷◌, ◌++◌, Option, Some, None}
use Rattle.std.proofs.lemmas.List.{append-nil}
use Rattle.serde_json.specs.Data.{Data, null}
use Rattle.cps_rpc.specs.Frame.{frame_of}
use Rattle.cps_rpc.specs.Params.{Change, OpenedText, opened_in, version_in}
use Rattle.cps_rpc.specs.declared.error_code.ErrorCode.TheVariants.{InvalidRequest, ParseError}
use Rattle.cps_rpc.specs.Json.{IsNoJson}
use Rattle.cps_rpc.specs.Message.{request, invalid}
use Rattle.cps_rpc.specs.Outgoing.{refusal}
use Rattle.cps_server.specs.Answers.{Hears, IsAnswered}
use Rattle.cps_server.specs.Diagnostics.{published}
use Rattle.cps_server.specs.Frames.{frame_of_json}
use Rattle.cps_server.specs.Notices.{TakesText, Opens, OpensBy, ChangesText, ClosesText, changed_by, listener}
use Rattle.cps_server.specs.Requests.{Owed, Owes, after_request, answer_with, request_named}
use Rattle.cps_server.specs.Code.Said.{Adds}
use Rattle.cps_server.specs.ServerState.{OpenText, ServerState, open_under, with_text, without}
use Rattle.cps_server.specs.Code.Writing.{ListsText, published_text}
use Rattle.cps_server.proofs.SaidLemmas.{adds-one, adds-as}
use Rattle.cps_server.proofs.TextLemmas.{without-twice}
use Rattle.cps_server.proofs.WritingLemmas.{published-written}

-- ---- texts

pub takes : (old new : ServerState) (uri : List ℕ) (version : Option ℤ) (text list said now : List ℕ)
    → ListsText (listener old uri) text list → now ≡ said ++ frame_of (published_text uri version list)
    → new ≡ record old { texts = with_text (record { uri = uri; version = version; text = text }) old.texts }
    → Adds (λ news. TakesText old uri version text news new) said now
takes old new uri version text list said now lists added moves =
    adds-one (λ news. TakesText old uri version text news new) (published uri version lists.0) said now
    (record { told = lists.0; tells = lists.1; says = refl; moves = moves })
    (added ∙ ap (λ list. said ++ frame_of (published_text uri version list)) lists.2 ∙ ap (λ text. said ++ frame_of text) (sym (published-written uri version lists.0)))

pub opens : (params : Data) (old new : ServerState) (opened : OpenedText) (version : Option ℤ) (text said now : List ℕ) → opened_in params ≡ Some opened
    → version ≡ version_in params → text ≡ opened.text → Adds (λ news. TakesText old opened.uri version text news new) said now
    → Adds (λ news. OpensBy params old news new) said now
opens params old new opened version text said now there known same adds =
    subst (λ found. Adds (λ news. Opens old (version_in params) found news new) said now) (sym there)
    (subst (λ v. Adds (λ news. TakesText old opened.uri v opened.text news new) said now) known
    (subst (λ t. Adds (λ news. TakesText old opened.uri version t news new) said now) same adds))

pub changes : (old mid new : ServerState) (uri : List ℕ) (version : Option ℤ) (all : List Change) (one : OpenText) (made said now : List ℕ)
    → open_under uri old.texts ≡ Some one → mid ≡ record old { texts = without uri old.texts } → made ≡ changed_by mid.encoding all one.text
    → Adds (λ news. TakesText mid uri version made news new) said now
    → Adds (λ news. ChangesText old uri version all (open_under uri old.texts) news new) said now
changes old mid new uri version all one made said now there moved is adds =
    subst (λ found. Adds (λ news. ChangesText old uri version all found news new) said now) (sym there)
    (adds-as (λ news. TakesText (record old { texts = without uri old.texts }) uri version (changed_by old.encoding all one.text) news new)
    (λ news. TakesText old uri version (changed_by old.encoding all one.text) news new) said now
    (λ news takes. record {
      told = takes.told;
      tells = takes.tells;
      says = takes.says;
      moves = takes.moves
          ∙ ap (λ texts. record old { texts = texts ++ record { uri = uri; version = version; text = changed_by old.encoding all one.text } ∷ [] })
          (without-twice uri old.texts);
    })
    (subst (λ standing. Adds (λ news. TakesText standing uri version (changed_by standing.encoding all one.text) news new) said now) moved
    (subst (λ text. Adds (λ news. TakesText mid uri version text news new) said now) is adds)))

pub closes : (old new : ServerState) (uri : List ℕ) (one : OpenText) (said now : List ℕ) → open_under uri old.texts ≡ Some one
    → new ≡ record old { texts = without uri old.texts }
    → now ≡ said ++ frame_of_json (published uri None []) → Adds (λ news. ClosesText old uri (open_under uri old.texts) news new) said now
closes old new uri one said now there moved added =
    subst (λ found. Adds (λ news. ClosesText old uri found news new) said now) (sym there)
    (adds-one (λ news. ClosesText old uri (Some one) news new) (published uri None []) said now (refl, moved) added)

-- ---- messages

pub hears-request : (old new : ServerState) (id params : Data) (method said now : List ℕ) (owed : Owed) → Owes (request_named method) params old owed
    → now ≡ said ++ frame_of_json (answer_with id owed)
    → new ≡ after_request (request_named method) params old → Adds (λ news. Hears (request id method) params old news new) said now
hears-request old new id params method said now owed owes added moved =
    adds-one (λ news. Hears (request id method) params old news new) _ said now (owed, owes, refl, moved) added

pub hears-invalid : (old new : ServerState) (params : Data) (said now : List ℕ) → now ≡ said ++ frame_of_json (refusal null InvalidRequest)
    → new ≡ old → Adds (λ news. Hears invalid params old news new) said now
hears-invalid old new params said now added stays =
    adds-one (λ news. Hears invalid params old news new) _ said now (refl, stays) added

pub answers-no-json : (old new : ServerState) (message said now : List ℕ) → IsNoJson message → now ≡ said ++ frame_of_json (refusal null ParseError) → new ≡ old
    → (text : List ℕ) × (now ≡ said ++ text) × IsAnswered old message text new
answers-no-json old new message said now none added stays = (
  frame_of_json (refusal null ParseError),
  added,
  record {
    said = refusal null ParseError ∷ [];
    heard = inr (record { none = none; refuses = refl; stays = stays });
    written = sym (append-nil (frame_of_json (refusal null ParseError)));
  },
)
