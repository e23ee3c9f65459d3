-- What a server does at notifications. From the Language Server Protocol 3.17.
use Rattle.std.specs.Prelude.{◌≡◌, ℕ, ℤ, true, List, [], ◌∷◌, Option, Some, None, codes, bytes_eq, if◌then◌else◌}
use Rattle.serde_json.specs.Data.{Data}
use Rattle.cps_rpc.specs.declared.encoding.Encoding.{Encoding}
use Rattle.cps_rpc.specs.Changes.{changed}
use Rattle.cps_rpc.specs.Params.{Change, OpenedText, changes_in, opened_in, uri_in, version_in}
use Rattle.cps_server.specs.declared.notice.Notice.{Notice}
use Rattle.cps_server.specs.declared.notice.Notice.TheVariants.{Exit, Open, Change as ChangeNotice, Close, Unknown}
use Rattle.cps_server.specs.declared.server_phase.ServerPhase.{ServerPhase}
use Rattle.cps_server.specs.declared.server_phase.ServerPhase.TheVariants.{Uninitialized, Running, ShutDown}
use Rattle.cps_server.specs.Diagnostics.{Listener, TellsText, published}
use Rattle.cps_server.specs.ServerState.{OpenText, ServerState, open_under, with_text, without}

-- the notification of a method
abbrev pub notice_named : List ℕ → Notice
notice_named method =
    if bytes_eq method (codes "exit") then Exit
    else (if bytes_eq method (codes "textDocument/didOpen") then Open
    else (if bytes_eq method (codes "textDocument/didChange") then ChangeNotice
    else (if bytes_eq method (codes "textDocument/didClose") then Close else Unknown)))

-- nothing is said, and nothing changes
abbrev pub IsSilent : ServerState → List Data → ServerState → Type 0
IsSilent old said new = (said ≡ []) × (new ≡ old)

-- who is told the marks of a text
abbrev pub listener : ServerState → List ℕ → Listener
listener server uri = record { encoding = server.encoding; client = server.client; uri = uri }

-- a text is open under a URI, and its marks are told
pub record TakesText (old : ServerState) (uri : List ℕ) (version : Option ℤ) (text : List ℕ) (said : List Data) (new : ServerState) : Type 0 where
  pub told : List Data
  pub tells : TellsText (listener old uri) text told
  pub says : said ≡ published uri version told ∷ []
  pub moves : new ≡ record old { texts = with_text (record { uri = uri; version = version; text = text }) old.texts }

-- a text is opened; wrong parameters do nothing
abbrev pub Opens : ServerState → Option ℤ → Option OpenedText → List Data → ServerState → Type 0
Opens old version None said new = IsSilent old said new
Opens old version (Some opened) said new = TakesText old opened.uri version opened.text said new

abbrev pub OpensBy : Data → ServerState → List Data → ServerState → Type 0
OpensBy params old said new = Opens old (version_in params) (opened_in params) said new

-- ---- changes

-- a text with changes, one after another
abbrev pub changed_by : Encoding → List Change → List ℕ → List ℕ
changed_by encoding [] text = text
changed_by encoding (change ∷ changes) text = changed_by encoding changes (changed encoding text change.range change.text)

-- the text under a URI is changed, if one is open there
abbrev pub ChangesText : ServerState → List ℕ → Option ℤ → List Change → Option OpenText → List Data → ServerState → Type 0
ChangesText old uri version changes None said new = IsSilent old said new
ChangesText old uri version changes (Some one) said new = TakesText old uri version (changed_by old.encoding changes one.text) said new

abbrev pub ChangesUnder : List ℕ → Option ℤ → List Change → ServerState → List Data → ServerState → Type 0
ChangesUnder uri version changes old said new = ChangesText old uri version changes (open_under uri old.texts) said new

-- the changes of a message are made; where one is wrong, none is
abbrev pub Changes : ServerState → Option (List ℕ) → Option ℤ → Option (List Change) → List Data → ServerState → Type 0
Changes old None version changes said new = IsSilent old said new
Changes old (Some uri) version None said new = IsSilent old said new
Changes old (Some uri) version (Some changes) said new = ChangesUnder uri version changes old said new

abbrev pub ChangesBy : Data → ServerState → List Data → ServerState → Type 0
ChangesBy params old said new = Changes old (uri_in params) (version_in params) (changes_in params) said new

-- ---- closing

-- a text is closed, if it was open: the editor is told that it has no diagnostics
abbrev pub ClosesText : ServerState → List ℕ → Option OpenText → List Data → ServerState → Type 0
ClosesText old uri None said new = IsSilent old said new
ClosesText old uri (Some one) said new = (said ≡ published uri None [] ∷ []) × (new ≡ record old { texts = without uri old.texts })

abbrev pub ClosesUnder : List ℕ → ServerState → List Data → ServerState → Type 0
ClosesUnder uri old said new = ClosesText old uri (open_under uri old.texts) said new

abbrev pub Closes : ServerState → Option (List ℕ) → List Data → ServerState → Type 0
Closes old None said new = IsSilent old said new
Closes old (Some uri) said new = ClosesUnder uri old said new

abbrev pub ClosesBy : Data → ServerState → List Data → ServerState → Type 0
ClosesBy params old said new = Closes old (uri_in params) said new

-- ---- all

-- what is done while a server runs
abbrev pub Notes : Notice → Data → ServerState → List Data → ServerState → Type 0
Notes Exit params old said new = (said ≡ []) × (new ≡ record old { has_exited = true })
Notes Open params old said new = OpensBy params old said new
Notes ChangeNotice params old said new = ChangesBy params old said new
Notes Close params old said new = ClosesBy params old said new
Notes Unknown params old said new = IsSilent old said new

-- what is done before that, and after: `exit` alone is heard
abbrev pub NotesIdly : Notice → ServerState → List Data → ServerState → Type 0
NotesIdly Exit old said new = (said ≡ []) × (new ≡ record old { has_exited = true })
NotesIdly Open old said new = IsSilent old said new
NotesIdly ChangeNotice old said new = IsSilent old said new
NotesIdly Close old said new = IsSilent old said new
NotesIdly Unknown old said new = IsSilent old said new

-- what is done at a notification, by the phase
abbrev pub NotesIn : ServerPhase → Notice → Data → ServerState → List Data → ServerState → Type 0
NotesIn Uninitialized notice params old said new = NotesIdly notice old said new
NotesIn Running notice params old said new = Notes notice params old said new
NotesIn ShutDown notice params old said new = NotesIdly notice old said new

abbrev pub NotesAt : Notice → Data → ServerState → List Data → ServerState → Type 0
NotesAt notice params old said new = NotesIn old.phase notice params old said new
