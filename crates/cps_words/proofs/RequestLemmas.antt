-- What the proofs of the reading of words cite.
use Rattle.std.proofs.Common.{◌≡◌, ◌⊎◌, ◌∙◌, List, [], ◌∷◌, Option, Some, None, Result, Ok, Err, option_map, IfOk, IfErr, refl, sym, ap, inl, inr}
use Rattle.clap.specs.Words.{IsAmong, Kinds, Row, Text, fault_of, subcommand_of}
use Rattle.clap.specs.declared.error.kind.ErrorKind.{ErrorKind}
use Rattle.clap.specs.declared.error.kind.ErrorKind.TheVariants.{OutOfMemory}
use Rattle.cps_words.specs.Commands.{compass}
use Rattle.cps_words.specs.Request.{IsAnswer, answer_at, answer_from, answer_of, answer_unless, asked_by, refuses, request_in, request_of, tells}
use Rattle.cps_words.specs.Code.Reading.{Reads, Says}
use Rattle.cps_words.specs.declared.request.Call.{Call}
use Rattle.cps_words.specs.declared.unread.Unread.{Unread}
use Rattle.cps_words.specs.declared.unread.Unread.TheVariants.{Told, Wrong, Memory}
use Rattle.cps_words.proofs.AlikeLemmas.{alike_faults, first_answer}

-- a command that was met, by its name and its rows
pub met_is : {X : Type 0} (n : X → Text) (r : X → List Row) (met : Option X) (name : Text) (rows : List Row) → Some name ≡ option_map n met
    → Some rows ≡ option_map (λ (p : Text × List Row). p.1) (option_map {U = Text × List Row} (λ x. (n x, r x)) met) → option_map {U = Text × List Row} (λ x. (n x, r x)) met ≡ Some (name, rows)
met_is n r None name rows named had = cc
met_is n r (Some x) name rows named had = cc

-- ---- words without a fault are answered by the command that was met

module _ (words : List Text) (met : Option (Text × List Row)) (none : fault_of compass words ≡ []) (same : met ≡ subcommand_of compass words) where
  answer_is : answer_of words ≡ answer_from met
  answer_is = ap (λ faults. answer_unless faults (subcommand_of compass words)) none ∙ ap answer_from (sym same)

  pub asked_of : (r : Result Call Unread) → Reads (answer_from met) r → IfOk r (λ call. answer_of words ≡ asked_by call)
  asked_of (Ok call) reads = answer_is ∙ reads
  asked_of (Err unread) reads = tt

  pub said_of : (r : Result Call Unread) → Reads (answer_from met) r → IfErr r (IsAnswer words)
  said_of (Ok call) reads = tt
  said_of (Err (Told text)) reads = answer_is ∙ reads
  said_of (Err (Wrong text)) reads = answer_is ∙ reads
  said_of (Err Memory) reads = tt

-- ---- words with a fault are answered by it

faulty : (faults : Kinds) (met : Option (Text × List Row)) (kind : ErrorKind) → IsAmong kind faults → answer_unless faults met ≡ first_answer faults
faulty [] met kind among = absurd among
faulty (k ∷ ks) met kind among = refl

answer_by : (words : List Text) (kind : ErrorKind) → IsAmong kind (fault_of compass words) → answer_of words ≡ answer_at kind
answer_by words kind among =
    faulty (fault_of compass words) (subcommand_of compass words) kind among ∙ sym ((alike_faults words).same kind among)

pub stopped_by : (words : List Text) (kind : ErrorKind) (unread : Unread) → (kind ≡ OutOfMemory) ⊎ IsAmong kind (fault_of compass words)
    → Says kind unread → IsAnswer words unread
stopped_by words kind (Told text) (inl memory) says = let bad : refuses ≡ tells = ap answer_at (sym memory) ∙ says in cc
stopped_by words kind (Told text) (inr among) says = answer_by words kind among ∙ says
stopped_by words kind (Wrong text) (inl memory) says = absurd (says.1 memory)
stopped_by words kind (Wrong text) (inr among) says = answer_by words kind among ∙ says.0
stopped_by words kind Memory why says = tt

-- a text is said only where nothing is asked
pub unread_asks : (words : List Text) (unread : Unread) → IsAnswer words unread → (unread ≡ Memory) ⊎ (request_of words ≡ None)
unread_asks words (Told text) answer = inr (ap request_in answer)
unread_asks words (Wrong text) answer = inr (ap request_in answer)
unread_asks words Memory answer = inl refl
