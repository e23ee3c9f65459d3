-- Parts of the reading of words: not part of what a reader believes. Our own.
use Rattle.std.specs.Prelude.{◌≡◌, Option, Some, None, Result, Ok, Err, ⊤}
use Rattle.clap.specs.declared.error.kind.ErrorKind.{ErrorKind}
use Rattle.clap.specs.declared.error.kind.ErrorKind.TheVariants.{OutOfMemory}
use Rattle.cps_words.specs.Request.{Answer, answer_at, asked_by, refuses, tells}
use Rattle.cps_words.specs.declared.hint_words.HintWords.{HintWords}
use Rattle.cps_words.specs.Hints.{Hints, hints_of}
use Rattle.cps_words.specs.declared.request.Call.{Call}
use Rattle.cps_words.specs.declared.unread.Unread.{Unread}
use Rattle.cps_words.specs.declared.unread.Unread.TheVariants.{Told, Wrong, Memory}

-- words that are answered so are read: the call is what they ask, or a text tells the help, or refuses them, or there was no memory
abbrev pub Reads : Answer → Result Call Unread → Type 0
Reads answer (Ok call) = answer ≡ asked_by call
Reads answer (Err (Told text)) = answer ≡ tells
Reads answer (Err (Wrong text)) = answer ≡ refuses
Reads answer (Err Memory) = ⊤

-- the value that words name is read: it is that, or a text says that they name none, or there was no memory
abbrev pub ReadsValue : {X : Type 0} → Option X → Result X Unread → Type 0
ReadsValue named (Ok value) = named ≡ Some value
ReadsValue named (Err (Told text)) = ⊥
ReadsValue named (Err (Wrong text)) = named ≡ None
ReadsValue named (Err Memory) = ⊤

-- the same of what is said of words
abbrev pub ReadsHints : Option Hints → Result HintWords Unread → Type 0
ReadsHints named (Ok words) = named ≡ Some (hints_of words)
ReadsHints named (Err (Told text)) = ⊥
ReadsHints named (Err (Wrong text)) = named ≡ None
ReadsHints named (Err Memory) = ⊤

-- the help or the version is told, or there was no memory
abbrev pub IsTold : Unread → Type 0
IsTold (Told text) = ⊤
IsTold (Wrong text) = ⊥
IsTold Memory = ⊤

-- no help and no version is told
abbrev pub IsRefusal : Unread → Type 0
IsRefusal (Told text) = ⊥
IsRefusal (Wrong text) = ⊤
IsRefusal Memory = ⊤

-- the words are said to be wrong
abbrev pub IsWrong : Unread → Type 0
IsWrong (Told text) = ⊥
IsWrong (Wrong text) = ⊤
IsWrong Memory = ⊥

-- what may be said of a fault of that kind
abbrev pub Says : ErrorKind → Unread → Type 0
Says kind (Told text) = answer_at kind ≡ tells
Says kind (Wrong text) = (answer_at kind ≡ refuses) × (kind ≡ OutOfMemory → ⊥)
Says kind Memory = ⊤
